-- From the row of one word to that of the next: the laws that the inner loops lean on. Assumes nothing.
use mathlib.Core.Path.{◌≡◌, sym, ◌∙◌}
use mathlib.Core.List.{List}
use Prim.Native.Nat.{ℕ, ◌+◌, ◌-◌, ◌*◌, ◌≤◌, ◌<◌}
use native.Mathlib.Nat.{le_antisymm, mul-le-mul_right, zero-mul}
use native.Mathlib.Numerals.{add-one-le}
use native.Mathlib.Omega.{arith}
use borrow.Author.Count.{below_more}
use lib.Arith.{digits_lt}
use lib.ListN.{length, get_or}
use lib.Ieee.{Float, nan}
use Rattle.refusals.specs.Bounds.{the_labels, most}
use Rattle.best_path.specs.Scores.{tabled, extended}
use Rattle.best_path.specs.Decoded.{last_largest, best, back}
use Rattle.best_path.proofs.Laws.{largest_within, largest_first, row_back, row_best}
use Rattle.viterbi_steps.specs.declared.Choice.{Choice}
use Rattle.viterbi_steps.specs.Chosen.{candidate, choice_of}
use Rattle.viterbi_steps.proofs.Choices.{row_after, score_more, from_more}
use Rattle.viterbi_steps.specs.Written.{written}
use Rattle.viterbi_steps.specs.Rows.{Holds, StepsTo, Before, After, onward, score_tried, mark_tried}
use Rattle.viterbi_steps.proofs.Written.{written_length, written_outside, written_inside, front_inside, written_same, written_over}

-- a row ends in its table
pub row_inside : (k n : ℕ) → k < n → k * n + n ≤ n * n
row_inside k n h = rw row_after at (mul-le-mul_right n (add-one-le h))

-- a choice of n candidates is one of them
pub choice_within : (g : ℕ → Float) (n : ℕ) (choice : Choice) → 0 < n → choice ≡ choice_of g n → choice.previous < n
choice_within g n choice some e = rw e (omega (arith, largest_within g (n - 1)))

-- ---- from the row of one word to that of the next
-- the candidate chosen is the step back, and its sum the best
module _ (n word : ℕ) (transitions states row : List Float) (some : 0 < n) (holds : Holds (tabled n transitions states) word row) (label : ℕ) where
  pub chosen_back : last_largest (candidate n transitions row label (get_or states ((word + 1) * n + label) nan)) (n - 1) ≡ back (tabled n transitions states) word label
  unfolding extended
  chosen_back = row_back (tabled n transitions states) (λ k. get_or row k nan) word holds some label

  pub chosen_best : (let g = candidate n transitions row label (get_or states ((word + 1) * n + label) nan) in g (last_largest g (n - 1))) ≡ best (tabled n transitions states) (word + 1) label
  unfolding extended
  chosen_best = row_best (tabled n transitions states) (λ k. get_or row k nan) word holds some label

  pub choice_back : (choice : Choice) → choice ≡ choice_of (candidate n transitions row label (get_or states ((word + 1) * n + label) nan)) n → choice.previous ≡ back (tabled n transitions states) word label
  choice_back choice e = rw e chosen_back

  pub choice_best : (choice : Choice) → choice ≡ choice_of (candidate n transitions row label (get_or states ((word + 1) * n + label) nan)) n → choice.score ≡ best (tabled n transitions states) (word + 1) label
  choice_best choice e = rw e chosen_best

-- ---- a row in the making, and its marks, once so many labels of the word before are tried
pub record Tried (n at : ℕ) (transitions states row blank next : List Float) (from : List ℕ) (count : ℕ) : Type 0 where
  pub scores : next ≡ written 0 (λ label. let g = candidate n transitions row label (get_or states (at + label) nan) in g (last_largest g (count - 1))) n blank
  pub marks : length from ≡ most the_labels
  pub whence : (label : ℕ) → label < n → get_or from label 0 ≡ last_largest (candidate n transitions row label (get_or states (at + label) nan)) (count - 1)

-- at first one is, and the row is written from it
pub tried_first : {n at : ℕ} {transitions states row blank : List Float} {from : List ℕ} (entry : List Float) → blank ≡ written 0 (onward (get_or row 0 nan) transitions 0 states at) n entry → length from ≡ most the_labels → ((label : ℕ) → label < n → get_or from label 0 ≡ 0) → Tried n at transitions states row blank blank from 1
tried_first {n} entry e m z = record {
  scores = rw e (sym (written_over 0 _ _ entry n ∙ written_same 0 _ _ entry n (λ label h. simp (largest_first, zero-mul))));
  marks = m;
  whence = λ label h. z label h ∙ sym (largest_first _);
}

-- the row stays as wide as it was
pub tried_wide : (n : ℕ) (first : ℕ → Float) (entry : List Float) {blank : List Float} → blank ≡ written 0 first n entry → length entry ≡ most the_labels → length blank ≡ most the_labels
tried_wide n first entry e wide = rw e (written_length 0 first entry n ∙ wide)

-- one label more
module _ {n at base count : ℕ} {transitions states row blank next : List Float} {from : List ℕ} (any : 0 < count) (few : n ≤ most the_labels) (wide : length blank ≡ most the_labels) (row_at : base ≡ count * n) (tried : Tried n at transitions states row blank next from count) where
  abbrev candidates : ℕ → Float
  candidates = onward (get_or row count nan) transitions base states at

  -- the score so far of a label
  so_far : (label : ℕ) → label < n → get_or next label nan ≡ (let g = candidate n transitions row label (get_or states (at + label) nan) in g (last_largest g (count - 1)))
  so_far label h = rw tried.scores (front_inside _ blank nan n (omega arith) label h)

  pub tried_more : {after : List Float} {marks : List ℕ} →
      after ≡ written 0 (score_tried candidates next) n next →
      marks ≡ written 0 (mark_tried candidates next count from) n from →
      Tried n at transitions states row blank after marks (count + 1)
  tried_more e f = record {
    scores =
        e
        ∙ written_same 0 _ _ next n (λ label h. score_more (candidate n transitions row label (get_or states (at + label) nan)) count any (get_or next label nan) (candidates label) 0 (so_far label h) (rw row_at))
        ∙ rw tried.scores (written_over 0 _ _ blank n);
    marks = rw f (written_length 0 _ from n ∙ tried.marks);
    whence = λ label h.
        rw f
        (front_inside _ from 0 n (omega (arith, tried.marks)) label h
        ∙ from_more (candidate n transitions row label (get_or states (at + label) nan)) count any (get_or next label nan) (candidates label) (get_or from label 0) (so_far label h) (rw row_at) (tried.whence label h));
  }

-- none is left to try
pub tried_all : {n at count : ℕ} {transitions states row blank next : List Float} {from : List ℕ} → count ≤ n → n ≤ count → Tried n at transitions states row blank next from count → Tried n at transitions states row blank next from n
tried_all h k tried = rw (le_antisymm h k) at tried

-- every label of the word before is tried, and the marks are put in their place
module _ {n : ℕ} (word : ℕ) {transitions states row blank next : List Float} {from : List ℕ} (some : 0 < n) (tried : Tried n ((word + 1) * n) transitions states row blank next from n) where
  pub marks_within : (label : ℕ) → label < n → get_or from label 0 < n
  marks_within label h = rw (tried.whence label h) (omega (arith, largest_within (candidate n transitions row label (get_or states ((word + 1) * n + label) nan)) (n - 1)))

  pub tried_after : Holds (tabled n transitions states) word row → (entry : List Float) (first : ℕ → Float) → blank ≡ written 0 first n entry → (steps : List ℕ) {longer : List ℕ} → longer ≡ written ((word + 1) * n) (λ label. get_or from label 0) n steps → After n word transitions states entry steps next longer
  tried_after holds entry first b steps e = record {
    scores = tried.scores ∙ written_same 0 _ _ blank n (λ label h. chosen_best n word transitions states row some holds label) ∙ rw b (written_over 0 first _ entry n);
    leads = e ∙ written_same ((word + 1) * n) _ _ steps n (λ label h. tried.whence label h ∙ chosen_back n word transitions states row some holds label);
  }

-- ---- what a word more gives its caller
module _ {n word : ℕ} {transitions states row next : List Float} {steps : List ℕ} (before : Before n word transitions states row next steps) (made : List Float) (longer : List ℕ) (after : After n word transitions states next steps made longer) where
  pub after_wide : length made ≡ most the_labels
  after_wide = rw after.scores (written_length 0 _ next n ∙ before.wide)

  pub after_holds : Holds (tabled n transitions states) (word + 1) made
  after_holds label h = rw after.scores (front_inside _ next nan n (omega (arith, before.wide, before.few)) label h)

  pub after_leads : StepsTo (tabled n transitions states) word steps → StepsTo (tabled n transitions states) (word + 1) longer
  after_leads old earlier label h k =
      below_more (λ e. get_or longer ((e + 1) * n + label) 0 ≡ back (tabled n transitions states) e label) word
      (λ e b. rw after.leads (written_outside ((word + 1) * n) _ steps 0 ((e + 1) * n + label) n (λ j l q. let c : (e + 1) * n + label < (word + 1) * n = digits_lt (omega arith) k in absurd (omega arith)) ∙ old e label b k))
      (rw after.leads (written_inside ((word + 1) * n) _ steps 0 n before.long_steps label k))
      earlier
      h
