-- `look::behind` and `look::plain` meet their contracts. Assumes nothing.
use Rattle.std.proofs.Common.{true, false}
use Rattle.layout.proofs.Laws.{step_plain, step_slash, step_special}
use Rattle.look.proofs.Walk.{next, less, on}
use Rattle.look.proofs.+behind_plain.Goals as goal

pub behind-plain-requires : goal.behind-plain-requires
behind-plain-requires t c = (less _ _ _ c.decreases c.requires.forward c.if-at-end.false, next _ _ _ c.requires c.if-at-end.false)

pub behind-returns-then-b : goal.behind-returns-then-b
behind-returns-then-b t c = on _ true false _ _ _ c.requires c.if-at-end.false (λ k. step_special k _ c.if-b.true) c.plain.ensures

pub plain-behind-requires : goal.plain-behind-requires
plain-behind-requires t c = (less _ _ _ c.decreases c.requires.forward c.if-at-end.false, next _ _ _ c.requires c.if-at-end.false)

pub plain-returns-then-b-eq92 : goal.plain-returns-then-b-eq92
plain-returns-then-b-eq92 t c = on _ false true _ _ _ c.requires c.if-at-end.false (λ k. step_slash k _ c.if-b-eq92.true) c.behind.ensures

pub plain-plain-requires : goal.plain-plain-requires
plain-plain-requires t c = (less _ _ _ c.decreases c.requires.forward c.if-at-end.false, next _ _ _ c.requires c.if-at-end.false)

pub plain-returns : goal.plain-returns
plain-returns t c = on _ false false _ _ _ c.requires c.if-at-end.false (λ k. step_plain k _ c.if-b-eq92.false c.if-b.false) c.plain.ensures
