-- `updates::look_at` meets its contract. Assumes nothing.
use borrow.Author.Rules.{rules}
use borrow.Author.Tests.{not-true, not-false}
use Rattle.updates.proofs.Looked.{not_scored, agreeing, differing}
use Rattle.updates.proofs.look_at.Goals as goal

pub returns-then-not-scored : goal.returns-then-not-scored
returns-then-not-scored c =
    λ l. not_scored _ _ _ (c.if-not-scored.true) (c.refuse.ensures l)

pub returns-then-agree : goal.returns-then-agree
returns-then-agree c =
    λ l. agreeing _ _ _ (c.if-not-scored.false) c.if-agree.true (c.unchanged.ensures l)

pub returns : goal.returns
returns c =
    λ l. differing _ _ _ (c.if-not-scored.false) c.if-agree.false
