-- A pass over places is a pass over the list of what stands there; scoring's passes, so read, go over what is named. Assumes nothing.
use mathlib.Core.Path.{◌≡◌, refl, sym, ap, ◌∙◌}
use mathlib.Core.Bool.{Bool, true, false, cond}
use mathlib.Core.List.{List, [], ◌∷◌, ◌++◌}
use Prim.Native.Nat.{ℕ, zero, suc, ◌+◌, ◌*◌, ◌≤◌, ◌<◌, min}
use native.Mathlib.Omega.{arith}
use borrow.Author.Tests.{ltb-true, ltb-false}
use lib.Dec.{eqb, ltb}
use lib.ListN.{get_or}
use lib.Ieee.{Float, binary64, mul}
use Rattle.lines.specs.declared.Attribute.{Attribute}
use Rattle.lines.specs.Passes.{through, through_list, raised, start, size}
use Rattle.lines.specs.Tables.{Lists, Model, Words, attribute_at, State, Transition}
use Rattle.lines.specs.Scored.{state_entry_of, scored_attribute, scored_at, scored_word, transition_entry_of}
use Rattle.same_scores.specs.Named.{ScoringInput, listed, list_at, attributes_at, Feature, feature_at, named_by, among, StateFeature, as_state, TransitionFeature, as_transition, states_for, transitions_for}

-- s after a step at each member of a list
unfoldable pub after : {A S : Type 0} → (A → S → S) → List A → S → S
after g [] s = s
after g (x ∷ xs) s = after g xs (g x s)

after_append : {A S : Type 0} (g : A → S → S) (xs ys : List A) (s : S) → after g (xs ++ ys) s ≡ after g ys (after g xs s)
unfolding after
after_append g [] ys s = refl
after_append g (x ∷ xs) ys s = after_append g xs ys (g x s)

pub through_listed : {A S : Type 0} (g : A → S → S) (f : ℕ → A) (first n : ℕ) (s : S) → through (λ k. g (f k)) first n s ≡ after g (listed f first n) s
unfolding through listed after
through_listed g f first zero s = refl
through_listed g f first (suc n) s = ap (g (f (first + n))) (through_listed g f first n s) ∙ sym (after_append g (listed f first n) (f (first + n) ∷ []) s)

-- steps that are the same in the range make the same pass
pub through_same : {S : Type 0} (f g : ℕ → S → S) (first n : ℕ) → ((j : ℕ) → j < n → (s : S) → f (first + j) s ≡ g (first + j) s) → (s : S) → through f first n s ≡ through g first n s
unfolding through
through_same f g first zero h s = refl
through_same f g first (suc n) h s = h n (omega arith) (through f first n s) ∙ ap (g (first + n)) (through_same f g first n (λ j k. h j (omega arith)) s)

-- ---- what an entry does, by the feature that it names: features of another kind are passed over
module _ {A S : Type 0} (kind : ℕ) (read : Feature → A) (add : A → S → S) where
  abbrev of_kind : Feature → S → S
  of_kind f s = cond (eqb f.kind kind) (add (read f) s) s

  kind_only : (fs : List Feature) (s : S) → after of_kind fs s ≡ after add (among kind read fs) s
  unfolding after among
  kind_only [] s = refl
  kind_only (f ∷ fs) s = go (eqb f.kind kind) (kind_only fs)
    where
      go : (b : Bool) → ((t : S) → after of_kind fs t ≡ after add (among kind read fs) t) → after of_kind fs (cond b (add (read f) s) s) ≡ after add (cond b (read f ∷ among kind read fs) (among kind read fs)) s
      go true r = r (add (read f) s)
      go false r = r s

-- a list that is there is gone through, one that is not is passed over: what is named, one by one
pass_named : {S : Type 0} (i : ScoringInput) (lists : Lists) (g : Feature → S → S) (a : ℕ) (s : S) →
    cond (ltb a lists.count) (through_list (λ place. g (feature_at i (get_or lists.entries place 0))) lists.starts a s) s ≡ after g (named_by i lists a) s
unfolding named_by after
pass_named i lists g a s = go (ltb a lists.count)
  where
    go : (b : Bool) → cond b (through_list (λ place. g (feature_at i (get_or lists.entries place 0))) lists.starts a s) s ≡ after g (cond b (list_at (λ place. feature_at i (get_or lists.entries place 0)) lists.starts a) []) s
    go true = through_listed g (λ place. feature_at i (get_or lists.entries place 0)) (start lists.starts a) (size lists.starts a) s
    go false = refl

-- ---- scoring
-- "each State entry adds weight·value at its destination", "each Transition entry adds its weight at its own source and destination"
abbrev pub to_state : ℕ → ℕ → Float → StateFeature → List Float → List Float
to_state labels word value f s = raised s (word * labels + f.destination) (mul binary64 f.weight value)

abbrev pub to_next : ℕ → TransitionFeature → List Float → List Float
to_next labels f s = raised s (f.source * labels + f.destination) f.weight

pub attribute_named : (i : ScoringInput) (word : ℕ) (a : Attribute) (s : List Float) → scored_attribute i.model i.weights word a s ≡ after (to_state i.model.labels word a.value) (states_for i a.id) s
unfolding scored_attribute state_entry_of states_for
attribute_named i word a s =
    let add = to_state i.model.labels word a.value in
    pass_named i i.model.attribute_lists_of (of_kind State as_state add) a.id s ∙ kind_only State as_state add (named_by i i.model.attribute_lists_of a.id) s

pub word_named : (m : Model) (weights : List Float) (d : Words) (first word : ℕ) (s : List Float) → scored_word m weights d first word s ≡ after (scored_attribute m weights word) (attributes_at d (first + word)) s
unfolding scored_word scored_at attributes_at
word_named m weights d first word s = through_listed (scored_attribute m weights word) (attribute_at d) _ _ s

-- a label's list, where there is one
abbrev pub label_pass : ScoringInput → ℕ → List Float → List Float
label_pass i label s = cond (ltb label i.model.label_lists_of.count) (through_list (transition_entry_of i.model i.weights) i.model.label_lists_of.starts label s) s

pub label_named : (i : ScoringInput) (label : ℕ) (s : List Float) → label_pass i label s ≡ after (to_next i.model.labels) (transitions_for i label) s
unfolding transition_entry_of transitions_for
label_named i label s =
    let add = to_next i.model.labels in
    pass_named i i.model.label_lists_of (of_kind Transition as_transition add) label s ∙ kind_only Transition as_transition add (named_by i i.model.label_lists_of label) s

-- "numbered below both L and their number": below L, as far as there are lists
pub below_both : {S : Type 0} (step : ℕ → S → S) (count n : ℕ) (s : S) → through step 0 (min n count) s ≡ through (λ k t. cond (ltb k count) (step k t) t) 0 n s
unfolding through
below_both step count zero s = let z : min 0 count ≡ 0 = omega arith in ap (λ (k : ℕ). through step 0 k s) z
below_both {S} step count (suc n) s = go (ltb (0 + n) count) (ltb-true (0 + n) count) (ltb-false (0 + n) count) (below_both step count n s)
  where
    go : (b : Bool) → (b ≡ true → 0 + n < count) → (b ≡ false → count ≤ 0 + n) → {u : S} → through step 0 (min n count) s ≡ u → through step 0 (min (suc n) count) s ≡ cond b (step (0 + n) u) u
    go true h k e =
        let l = h refl in
        let p : min (suc n) count ≡ suc n = omega arith in
        let q : n ≡ min n count = omega arith in
        ap (λ (z : ℕ). through step 0 z s) p ∙ ap (step (0 + n)) (ap (λ (z : ℕ). through step 0 z s) q ∙ e)
    go false h k e =
        let l = k refl in
        let p : min (suc n) count ≡ min n count = omega arith in
        ap (λ (z : ℕ). through step 0 z s) p ∙ e
