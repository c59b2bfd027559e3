-- `labelling::decode_scores` meets its contract. Assumes nothing.
use Rattle.std.specs.Prelude.{Err}
use Rattle.labelling.proofs.Laws.{eight, path_found}
use Rattle.labelling.proofs.decode_scores.Goals as goal

pub check_scores-requires : goal.check_scores-requires
check_scores-requires c = c.requires.sized

pub returns-in-Err : goal.returns-in-Err
returns-in-Err c =
    let a = c.args in
    eight a.labels a.words a.transitions.now a.states.now a.path.now c.check_scores.ensures _ c.in-Err.is c.clear.ensures

pub decode_tables-requires : goal.decode_tables-requires
decode_tables-requires c = c.requires

pub returns : goal.returns
returns c =
    let a = c.args in
    path_found a.labels a.words a.transitions.now a.states.now a.path.now c.check_scores.ensures _ c.in_default.is c.decode_tables.ensures
