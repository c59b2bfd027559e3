-- `fill_text::fill` meets its contract. Assumes nothing.
use Rattle.layout.specs.Layout.{sequences}
use Rattle.fill_text.specs.Filled.{distinct_labels, distinct_names}
use Rattle.fill_text.proofs.Filling.{labels_placed, names_placed, labels_ready, names_ready, words_ready, attributes_ready, labels_are, names_are}
use Rattle.fill_text.proofs.fill.Goals as goal

pub fill_names-requires : goal.fill_names-requires
fill_names-requires c =
    labels_ready c.requires

pub fill_names-requires-2 : goal.fill_names-requires-2
fill_names-requires-2 c =
    names_ready c.requires

pub fill_words-requires : goal.fill_words-requires
fill_words-requires c =
    words_ready c.requires

pub fill_attributes-requires : goal.fill_attributes-requires
fill_attributes-requires c =
    attributes_ready c.requires

pub returns : goal.returns
returns c = λ h. (
  labels_are (sequences h.lines) (c.fill_names.ensures (distinct_labels (sequences h.lines)) (labels_placed c.requires h)),
  names_are (sequences h.lines) (c.fill_names-2.ensures (distinct_names (sequences h.lines)) (names_placed c.requires h)),
  c.fill_words.ensures h,
  c.fill_attributes.ensures h,
)
