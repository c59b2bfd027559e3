-- From the rows and the steps back to the answer: what accepted tables give the inner loops, and that the end of decoding over them is the decoded path, its sum and its lead. Assumes nothing.
use mathlib.Core.Path.{◌≡◌, refl, ap, ◌∙◌}
use mathlib.Core.Bool.{Bool, true, false, cond}
use mathlib.Core.List.{List}
use Prim.Native.Nat.{ℕ, ◌+◌, ◌-◌, ◌*◌, ◌≤◌, ◌<◌}
use native.Mathlib.Nat.{le_trans, mul-le-mul_right, zero-mul, zero-add, one-mul, not-suc-le-zero}
use native.Mathlib.Numerals.{add-one-le}
use native.Mathlib.Omega.{arith}
use borrow.Author.Tests.{ltb-true}
use lib.Dec.{ltb}
use lib.ListN.{length, replicate}
use lib.Ieee.{Float, nan, of_bits, binary64}
use Rattle.refusals.specs.Bounds.{the_labels, most}
use Rattle.best_path.specs.Scores.{Scores, tabled}
use Rattle.best_path.specs.Decoded.{best, last_label, decoded_path}
use Rattle.best_path.specs.Lead.{none, lead_between, rival, lead}
use Rattle.best_path.proofs.Laws.{best_first, last_label_within, row_last, row_sum, row_rival}
use Rattle.viterbi_steps.specs.declared.Row.{Row}
use Rattle.viterbi_steps.specs.Rows.{Holds, StepsTo, Before, After, first_row_of}
use Rattle.viterbi_steps.proofs.Written.{written_length, front_inside}
use Rattle.viterbi_steps.proofs.Choices.{row_after}
use Rattle.viterbi_steps.proofs.Laws.{after_wide, after_holds, after_leads}
use Rattle.viterbi_end.specs.declared.Found.{Found}
use Rattle.viterbi_end.specs.Rival.{score_at, rival_of}
use Rattle.viterbi_end.specs.Walked.{Walk}
use Rattle.viterbi_end.proofs.Laws.{walked_path, steps_within}
use Rattle.viterbi_end.specs.Ends.{last_of, lead_in_row, Ended}
use Rattle.viterbi.specs.Answered.{Ready, Answered}

-- a table that has rows has a first
pub one_row : (rows width : ℕ) → 0 < rows → width ≤ rows * width
one_row rows width h = rw one-mul at (mul-le-mul_right width h)

-- a word is done: the row has its best scores, and the steps back lead from it
pub record Done (n word : ℕ) (transitions states row : List Float) (steps : List ℕ) : Type 0 where
  pub wide : length row ≡ most the_labels
  pub holds : Holds (tabled n transitions states) word row
  pub leads : StepsTo (tabled n transitions states) word steps

-- the first word
pub first_done : {n : ℕ} {transitions states : List Float} {row : Row} {steps : List ℕ} → n ≤ most the_labels → row ≡ first_row_of n states → Done row.width 0 transitions states row.best steps
first_done {n} {transitions} {states} few e = rw e (record {
  wide = written_length 0 _ (replicate (most the_labels) (of_bits binary64 0)) n;
  holds = λ label h. rw (best_first (tabled n transitions states) label, zero-mul, zero-add) (front_inside _ (replicate (most the_labels) (of_bits binary64 0)) nan n few label h);
  leads = λ earlier label h k. absurd (not-suc-le-zero h);
})

-- the word at hand, by another name
pub done_as : {n word at : ℕ} {transitions states row : List Float} {steps : List ℕ} → word ≡ at → Done n word transitions states row steps → Done n at transitions states row steps
done_as e done = rw e at done

-- the tables have the width of the rows over them, and the steps have room for as many
pub ready_as : {n width words : ℕ} {transitions states : List Float} {path : List ℕ} → width ≡ n → Ready n words transitions states path → Ready width words transitions states path
ready_as e ready = rw e ready

pub room_as : {n width room steps : ℕ} (words : ℕ) → width ≡ n → steps ≡ room → words * n ≤ room → words * width ≤ steps
room_as words e long h = rw (e, long) h

pub answered_as : {n width words : ℕ} {transitions states : List Float} {before after : List ℕ} {found : Found} → width ≡ n → Answered width words transitions states before found after → Answered n words transitions states before found after
answered_as e made = rw e at made

-- one word more
pub done_more : {n word : ℕ} {transitions states row next : List Float} {steps : List ℕ} → Before n word transitions states row next steps → Done n word transitions states row steps → (made : List Float) (longer : List ℕ) → After n word transitions states next steps made longer → Done n (word + 1) transitions states made longer
done_more before done made longer after = record {
  wide = after_wide before made longer after;
  holds = after_holds before made longer after;
  leads = after_leads before made longer after done.leads;
}

-- a word of accepted tables, with steps that have room for every word: its rows are named by what is known of them
module _ {n words : ℕ} {transitions states : List Float} {path : List ℕ} (ready : Ready n words transitions states path) where
  -- the rows of the word after `word` are within the tables
  next_within : (word : ℕ) → word + 1 < words → (word + 1) * n + n ≤ words * n
  next_within word h = rw row_after at (mul-le-mul_right n (add-one-le h))

  pub before : {word : ℕ} {row next : List Float} {steps : List ℕ} → Done n word transitions states row steps → words * n ≤ length steps → word + 1 < words → length next ≡ most the_labels → Before n word transitions states row next steps
  before done long h wide = record {
    some = ready.sized.labels_in.low;
    few = ready.sized.labels_in.high;
    early = omega (arith, h, ready.sized.words_in_lem.high);
    long_transitions = ready.sized.room.long_transitions;
    long_states = le_trans (next_within _ h) ready.sized.room.long_states;
    long_steps = le_trans (next_within _ h) long;
    wide = wide;
    holds = done.holds;
  }

  -- one word more
  pub done_next : {word : ℕ} {row next : List Float} {steps : List ℕ} → Done n word transitions states row steps → words * n ≤ length steps → word + 1 < words → length next ≡ most the_labels → {made : List Float} {longer : List ℕ} → After n word transitions states next steps made longer → Done n (word + 1) transitions states made longer
  done_next done long h wide after = done_more (before done long h wide) done _ _ after

  -- the last word
  pub done_last : {word : ℕ} {row next : List Float} {steps : List ℕ} → Done n word transitions states row steps → words * n ≤ length steps → word + 1 < words → words ≤ word + 2 → length next ≡ most the_labels → {made : List Float} {longer : List ℕ} → After n word transitions states next steps made longer → Done n (words - 1) transitions states made longer
  done_last {word} done long h last wide after =
      let e : word + 1 ≡ words - 1 = omega (arith, h, last) in
      rw e at (done_next done long h wide after)

  pub walk : {row : List Float} {steps : List ℕ} → Done n (words - 1) transitions states row steps → words * n ≤ length steps → Walk n words steps path
  walk {steps = steps} done long = record {
    some = ready.sized.labels_in.low;
    few = ready.sized.labels_in.high;
    any = ready.sized.words_in_lem.low;
    long_path = ready.long_path;
    long_steps = long;
    within = steps_within (tabled n transitions states) steps ready.sized.labels_in.low words done.leads;
  }

-- the last row with the steps back
module _ {n : ℕ} (words : ℕ) {transitions states row : List Float} {steps : List ℕ} (some : 0 < n) (done : Done n (words - 1) transitions states row steps) where
  abbrev s : Scores
  s = tabled n transitions states

  last_is : last_of row n ≡ last_label s words
  last_is = row_last s words (score_at row) done.holds some

  lead_is : lead_in_row row n (last_label s words) ≡ lead s words
  unfolding lead
  lead_is = go (ltb 1 n) (ltb-true 1 n)
    where
      go : (b : Bool) → (b ≡ true → 1 < n) → cond b (lead_between (score_at row (last_label s words)) (rival_of row n (last_label s words))) none ≡ cond b (lead_between (best s (words - 1) (last_label s words)) (rival s words)) none
      go true h = rw (done.holds (last_label s words) (last_label_within s some words)) (ap (lead_between _) (row_rival s words (score_at row) done.holds (h refl)))
      go false h = refl

  pub answered : {before after : List ℕ} {found : Found} → Ended row n words steps before found after → Answered n words transitions states before found after
  unfolding decoded_path
  answered e = record {
    sum = e.sum ∙ ap (score_at row) last_is ∙ row_sum s words (score_at row) done.holds some;
    lead_is = e.lead ∙ ap (lead_in_row row n) last_is ∙ lead_is;
    path = e.path ∙ rw (last_is, walked_path s steps some (words - 1) done.leads (last_label s words) (last_label_within s some words));
  }
