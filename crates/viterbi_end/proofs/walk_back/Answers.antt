-- `walk_back` meets its contract. The loop's invariant: what is still to be walked, with what is written after it, is the whole path with the rest of the buffer. Assumes nothing.
use mathlib.Core.Path.{◌≡◌, ◌∙◌}
use Prim.Native.Nat.{◌+◌, ◌-◌, ◌*◌, ◌<◌}
use native.Mathlib.Nat.{lt_of_lt_of_le}
use native.Mathlib.Omega.{arith}
use lib.Arith.{digits_lt}
use lib.ListN.{length}
use Rattle.refusals.specs.Bounds.{the_labels, most}
use Rattle.viterbi_end.proofs.Laws.{walk_more, walk_end, step_within}
use Rattle.viterbi_end.proofs.walk_back.Goals.{At-loop-word, In-loop-word}
use Rattle.viterbi_end.proofs.walk_back.Goals as goal

-- a label of the path is one of a row's
label_few : (c : At-loop-word) → c.loop-word.label < most the_labels
label_few c = omega (arith, c.loop-word.invariant.1, c.requires.walk.few)

-- the place of a step
inside : (c : In-loop-word) →
    let a = c.args in
    (c.loop-word.word - 1) * a.n + c.loop-word.label < length a.steps.now
inside c =
    let h : c.loop-word.word - 1 < c.args.words = omega arith in
    lt_of_lt_of_le (digits_lt h c.loop-word.invariant.1) c.requires.walk.long_steps

pub loop-word-init : goal.loop-word-init
loop-word-init c =
    let e : c.args.words - 1 + 1 ≡ c.args.words = omega (arith, c.requires.walk.any) in
    (c.requires.walk.any, c.requires.last_lt_n, rw e)

pub put_label-requires : goal.put_label-requires
put_label-requires c =
    (omega (arith, c.requires.walk.long_path), label_few (goal.at.put_label-requires c).At-loop-word)

pub overflow_mul-word : goal.overflow_mul-word
overflow_mul-word c =
    omega (arith, inside (goal.at.overflow_mul-word c).In-loop-word)

pub overflow_add-word : goal.overflow_add-word
overflow_add-word c =
    omega (arith, inside (goal.at.overflow_add-word c).In-loop-word)

pub step_back-label-requires : goal.step_back-label-requires
step_back-label-requires c =
    inside (goal.at.step_back-label-requires c).In-loop-word

pub loop-word-preserved : goal.loop-word-preserved
loop-word-preserved c =
    let a = c.args in
    let word = c.loop-word.word - 1 in
    let any : 0 < word = omega arith in
    let within : word < a.words = omega arith in (
      any,
      step_within c.requires.walk word c.loop-word.label any within c.loop-word.invariant.1 c.step_back-label.ensures,
      walk_more a.steps.now a.n c.loop-word.path c.loop-word.label word any (omega (arith, c.requires.walk.long_path)) c.put_label.ensures c.step_back-label.ensures ∙ c.loop-word.invariant.2,
    )

pub put_label-requires-2 : goal.put_label-requires-2
put_label-requires-2 c =
    (omega (arith, c.requires.walk.long_path), label_few (goal.at.put_label-requires-2 c).At-loop-word)

pub returns : goal.returns
returns c =
    let a = c.args in
    walk_end a.steps.now a.n c.loop-word.path c.loop-word.label (omega arith) (omega (arith, c.requires.walk.long_path)) c.put_label-2.ensures ∙ c.loop-word.invariant.2
