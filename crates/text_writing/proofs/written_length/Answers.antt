-- `text_writing::written_length` meets its contract. Assumes nothing.
use Rattle.text_writing.specs.Ready.{strings, lent_tables}
use Rattle.text_writing.proofs.Lengths.{whole_length}
use Rattle.text_writing.proofs.written_length.Goals as goal

pub returns : goal.returns
returns c =
    let a = c.args in
    let t = lent_tables a.instances a.lines.now a.begins.now a.ids.now a.references.now (strings a.label_starts.now a.labels.now) (strings a.name_starts.now a.names.now) (strings a.scale_starts.now a.scales.now) in
    whole_length t a.words a.attributes c.requires.lines c.requires.begins c.labels_length-named.ensures.value c.attributes_length-marked.ensures.value
