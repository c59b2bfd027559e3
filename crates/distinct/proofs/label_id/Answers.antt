-- `distinct::label_id` meets its contract. Assumes nothing.
use mathlib.Core.Path.{◌∙◌, ap}
use mathlib.Core.List.{List}
use Rattle.layout.specs.Layout.{Bytes}
use Rattle.text_tables.specs.Distinct.{id_in}
use Rattle.distinct.specs.Names.{name_at}
use Rattle.distinct.proofs.Loops.{compare_here, compare_on, compare_ends}
use Rattle.distinct.proofs.label_id.Goals as goal

pub returns-then-same_name : goal.returns-then-same_name
returns-then-same_name c known k =
    compare_here _ _ _ _ _ _ _ c.requires.0.room c.loop-i-test.true c.loop-i.invariant c.at-p.ensures c.same_name.ensures c.if-same_name.true
    ∙ ap (λ (x : List Bytes). id_in x (name_at c.args.text.now c.args.from)) k.names

pub loop-i-preserved : goal.loop-i-preserved
loop-i-preserved c =
    compare_on _ _ _ _ _ _ _ c.requires.0.room c.loop-i-test.true c.loop-i.invariant c.at-p.ensures c.same_name.ensures c.if-same_name.false

pub returns : goal.returns
returns c known k =
    compare_ends _ _ _ _ _ c.requires.0.room c.loop-i.invariant c.loop-i-test.false
    ∙ ap (λ (x : List Bytes). id_in x (name_at c.args.text.now c.args.from)) k.names
