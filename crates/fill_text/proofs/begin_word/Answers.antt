-- `fill_text::begin_word` meets its contract. Assumes nothing.
use mathlib.Core.Path.{refl}
use native.Mathlib.Omega.{arith}
use Rattle.fill_text.proofs.WordsOn.{id_few, begun_is, set_same}
use Rattle.fill_text.proofs.begin_word.Goals as goal

pub overflow_cast-references : goal.overflow_cast-references
overflow_cast-references c =
    omega (arith, id_few _ c.requires.listed c.requires.few c.label_id-id.ensures)

pub returns : goal.returns
returns c =
    record {
      so_far = begun_is c.args.so_far c.begin_line-sequences.ensures.0;
      line_starts = c.begin_line-sequences.ensures.1;
      word_starts_of = refl;
      references = λ known k. set_same c.args.references.now c.args.so_far.words (c.label_id-id.ensures known k);
    }
