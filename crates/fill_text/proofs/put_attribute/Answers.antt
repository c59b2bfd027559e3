-- `fill_text::put_attribute` meets its contract. Assumes nothing.
use mathlib.Core.Path.{refl}
use native.Mathlib.Omega.{arith}
use Rattle.fill_text.proofs.WordsOn.{id_few, set_same}
use Rattle.fill_text.proofs.put_attribute.Goals as goal

pub overflow_cast-ids : goal.overflow_cast-ids
overflow_cast-ids c =
    omega (arith, id_few _ c.requires.tabled.knows.listed c.requires.few c.id_of-id.ensures)

pub returns : goal.returns
returns c =
    record {
      ids = λ known f. set_same c.args.ids.now c.args.so_far.attributes (c.id_of-id.ensures known f);
      values = λ p g. set_same c.args.values.now c.args.so_far.attributes (c.value_in.ensures p g);
      starts = refl;
      scales = c.keep.ensures;
    }
