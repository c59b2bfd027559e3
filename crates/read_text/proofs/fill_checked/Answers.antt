-- `read_text::fill_checked` meets its contract. Assumes nothing.
use Rattle.std.specs.Prelude.{Ok}
use mathlib.Core.Path.{◌≡◌, sym, ◌∙◌}
use Rattle.layout.specs.Layout.{WellFormed, sequences}
use Rattle.read_text.specs.Promise.{Buffers, checked_of}
use Rattle.read_text.specs.Lent.{buffers_of}
use Rattle.read_text.proofs.Figures.{sizes_told}
use Rattle.read_text.proofs.Ready.{surveyed, few_made, checked_as, within, small_made, text_ready}
use Rattle.read_text.proofs.Kept.{check_refused, filled_read}
use Rattle.read_text.proofs.fill_checked.Goals.{In_default}
use Rattle.read_text.proofs.fill_checked.Goals as goal

-- the tables at entry, and that what was surveyed is accepted
abbrev given : In_default → Buffers
given c =
    let a = c.args in
    buffers_of a.line_starts.now a.word_starts.now a.ids.now a.values.now a.references.now a.instance_weights.now
    a.label_name_starts.now a.label_names.now a.attribute_name_starts.now a.attribute_names.now a.scale_starts.now a.scales.now

accepted : (c : In_default) → (h : WellFormed c.args.text.now) → checked_of c.args.text.now (sequences h.lines) (given c) ≡ Ok tt
accepted c h =
    sym (checked_as c.requires (given c) c.check_text.ensures h) ∙ c.in_default.is

pub check_text-requires : goal.check_text-requires
check_text-requires c =
    few_made c.requires

pub returns-in-Err : goal.returns-in-Err
returns-in-Err c =
    check_refused c.args.text.now _ _ (λ h. sym (checked_as c.requires _ c.check_text.ensures h) ∙ c.in-Err.is)

pub fill-requires : goal.fill-requires
fill-requires c =
    text_ready c.requires (given (goal.at.fill-requires c).In_default) (accepted (goal.at.fill-requires c).In_default)

pub sizes_in-requires : goal.sizes_in-requires
sizes_in-requires c =
    small_made c.requires (given (goal.at.sizes_in-requires c).In_default) (accepted (goal.at.sizes_in-requires c).In_default)

pub returns : goal.returns
returns c = λ h.
    filled_read c.args.text.now (sequences h.lines) (given (goal.at.returns c).In_default) _ _ (accepted (goal.at.returns c).In_default h)
    (c.sizes_in.ensures ∙ sizes_told (sequences h.lines) _ (surveyed c.requires h).tells (within c.requires (given (goal.at.returns c).In_default) (accepted (goal.at.returns c).In_default) h))
    (c.fill.ensures h)
