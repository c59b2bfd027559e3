-- `read_text::sizes_readable` meets its contract. Assumes nothing.
use Rattle.std.specs.Prelude.{Ok}
use mathlib.Core.Path.{◌≡◌, sym, ◌∙◌}
use lib.ListN.{length}
use Rattle.refusals.proofs.Laws.{handed}
use Rattle.layout.specs.Layout.{WellFormed, sequences}
use Rattle.text_check.specs.Rows.{text_sized}
use Rattle.read_text.proofs.Figures.{sizes_told, sized_within, survey_small}
use Rattle.read_text.proofs.Kept.{sized_refused, sized_accepted}
use Rattle.read_text.proofs.sizes_readable.Goals.{In_ok-check_sizes}
use Rattle.read_text.proofs.sizes_readable.Goals as goal

accepted : (c : In_ok-check_sizes) → (h : WellFormed c.args.text.now) → text_sized (length c.args.text.now) (sequences h.lines) ≡ Ok tt
accepted c h =
    sym (c.check_sizes.ensures (length c.args.text.now) (sequences h.lines) c.requires.small (c.survey_alone-survey.ensures h).tells) ∙ c.in_ok-check_sizes.was

pub returns-in_err-check_sizes : goal.returns-in_err-check_sizes
returns-in_err-check_sizes c = λ h.
    rw (handed c.from_residual.ensures.1) (sized_refused c.args.text.now (sequences h.lines) _ (sym (c.check_sizes.ensures (length c.args.text.now) (sequences h.lines) c.requires.small (c.survey_alone-survey.ensures h).tells) ∙ c.in_err-check_sizes.was))

pub sizes_in-requires : goal.sizes_in-requires
sizes_in-requires c =
    let h = c.requires.formed in
    survey_small h c.requires.small (c.survey_alone-survey.ensures h) (sized_within (length c.args.text.now) (sequences h.lines) (accepted (goal.at.sizes_in-requires c).In_ok-check_sizes h))

pub returns : goal.returns
returns c = λ h.
    sized_accepted c.args.text.now (sequences h.lines) _ (accepted (goal.at.returns c).In_ok-check_sizes h) (c.sizes_in.ensures ∙ sizes_told (sequences h.lines) _ (c.survey_alone-survey.ensures h).tells (sized_within (length c.args.text.now) (sequences h.lines) (accepted (goal.at.returns c).In_ok-check_sizes h)))
