-- `write_check::is_unclean` meets its contract. Assumes nothing.
use Rattle.std.proofs.Common.{◌∙◌, sym, ap}
use Rattle.write_check.specs.Carry.{unclean}
use Rattle.write_check.proofs.ByteTests.{part_lent, unclean_here, unclean_on, unclean_over}
use Rattle.write_check.proofs.is_unclean.Goals as goal

pub returns-then-b : goal.returns-then-b
returns-then-b c =
    unclean_here _ _ c.loop-b-test.true c.loop-b.invariant c.if-b.true ∙ sym (ap unclean (part_lent c.args.bytes.now c.args.from c.args.to c.requires.0))

pub loop-b-preserved : goal.loop-b-preserved
loop-b-preserved c = unclean_on _ _ c.loop-b-test.true c.loop-b.invariant c.if-b.false

pub returns : goal.returns
returns c =
    unclean_over _ _ c.loop-b-test.false c.loop-b.invariant ∙ sym (ap unclean (part_lent c.args.bytes.now c.args.from c.args.to c.requires.0))
