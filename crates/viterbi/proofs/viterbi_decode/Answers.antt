-- `viterbi_decode` meets its contract. Assumes nothing.
use mathlib.Core.Path.{sym, ◌∙◌}
use Rattle.refusals.proofs.Laws.{handed}
use Rattle.viterbi.specs.Promise.{Given}
use Rattle.viterbi.proofs.Kept.{ready, decoded_kept, refused_kept}
use Rattle.viterbi.proofs.viterbi_decode.Goals as goal

pub returns-in_err-check_decode : goal.returns-in_err-check_decode
returns-in_err-check_decode c =
    rw (handed c.from_residual.ensures.1) (refused_kept _ _ _ (sym c.check_decode.ensures ∙ c.in_err-check_decode.was))

pub decode_tables-requires : goal.decode_tables-requires
decode_tables-requires c =
    let a = c.args in
    let given : Given = record { labels = a.labels; words = a.words; transitions = a.transitions.now; states = a.states.now } in
    ready given _ (sym c.check_decode.ensures ∙ c.in_ok-check_decode.was)

pub returns : goal.returns
returns c =
    let a = c.args in
    let given : Given = record { labels = a.labels; words = a.words; transitions = a.transitions.now; states = a.states.now } in
    decoded_kept given _ (sym c.check_decode.ensures ∙ c.in_ok-check_decode.was) _ _ c.decode_tables.ensures
