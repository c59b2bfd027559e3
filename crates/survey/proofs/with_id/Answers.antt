-- `survey::with_id` meets its contract. Assumes nothing.
use mathlib.Core.Path.{sym, ◌∙◌}
use borrow.Author.Rules.{rules}
use Rattle.survey.proofs.Figured.{sum_few, grown_new, grown_old}
use Rattle.survey.proofs.with_id.Goals as goal

pub overflow_add-result-then-is_new : goal.overflow_add-result-then-is_new
overflow_add-result-then-is_new c =
    let h = sum_few c.args.text.now c.args.from c.args.to _ _ c.requires.from_le_to.1 c.requires.from_le_to.2 c.requires.count_bound.1 c.unescaped_length-bytes.ensures in
    search (rules, h)

pub returns-then-is_new : goal.returns-then-is_new
returns-then-is_new c =
    grown_new _ _ _ _ (sym c.is_new.ensures ∙ c.if-is_new.true) c.unescaped_length-bytes.ensures

pub returns : goal.returns
returns c =
    grown_old _ _ _ (sym c.is_new.ensures ∙ c.if-is_new.false)
