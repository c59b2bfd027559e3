-- Where every value is 1, a State feature's count is the number of entries that match it. Assumes nothing.
use mathlib.Core.Path.{◌≡◌, refl, sym, ap, ◌∙◌, subst}
use mathlib.Core.Bool.{Bool, true, false, cond, ◌&&◌, true≢false}
use mathlib.Core.List.{List}
use Prim.Native.Nat.{ℕ, zero, suc, ◌+◌, ◌-◌, ◌*◌, ◌^◌, ◌≤◌, ◌<◌}
use native.Mathlib.Nat.{zero-add, le_refl}
use native.Mathlib.Omega.{arith}
use borrow.Author.Tests.{eqb-true, eqb-false, eq-eqb, ltb-true}
use lib.Dec.{eqb, ltb, lit≤}
use lib.ListN.{length, get_or, replicate, length-replicate, get_or-replicate, length-set}
use lib.Seq.{get_or-set_same, get_or-set_other}
use lib.Ieee.{Float, nan, binary64, add, of_int}
use Rattle.lines.specs.Passes.{through, start, size, raised}
use Rattle.binary64.specs.Numbers.{nought, whole}
use Rattle.lines.specs.Tables.{Model, Words, State, Transition}
use Rattle.lines.specs.Counted.{state_count, counted_attribute, counted_at, counted_word, transition_count_of, counted_transition, counts_of}
use Rattle.refusals.specs.Bounds.{the_attribute_entries, most}
use Rattle.training.specs.WholeCounts.{total, times_in_list, times_for, times_at, matching, StateCountsWhole, MatchingFits}
use Rattle.training.proofs.Whole.{whole_add}

total_none : (first n : ℕ) → total (λ _. 0) first n ≡ 0
unfolding total
total_none first zero = refl
total_none first (suc n) = omega (arith, total_none first n)

-- ---- a change of a table of so many counts that adds n to the count of i
module _ (features i : ℕ) where
  abbrev CountsBy : (List Float → List Float) → ℕ → Type 0
  CountsBy change n =
      (s : List Float) (k : ℕ) → length s ≡ features → get_or s i nan ≡ whole k → k + n ≤ 2 ^ 53 → (length (change s) ≡ features) × (get_or (change s) i nan ≡ whole (k + n))

  nothing : CountsBy (λ s. s) 0
  nothing s k l e h = (l, e ∙ ap whole (omega arith))

  by_test : (b : Bool) (change : List Float → List Float) (n : ℕ) → (b ≡ true → CountsBy change n) → CountsBy (λ s. cond b (change s) s) (cond b n 0)
  by_test true change n c = c refl
  by_test false change n c = nothing

  by_none : (b : Bool) (change : List Float → List Float) → (b ≡ true → CountsBy change 0) → CountsBy (λ s. cond b (change s) s) 0
  by_none true change c = c refl
  by_none false change c = nothing

  here : i < features → CountsBy (λ s. raised s i (whole 1)) 1
  unfolding raised
  here f s k l e h =
      (length-set s i _ ∙ l, get_or-set_same s i _ nan (omega arith) ∙ ap (λ (x : Float). add binary64 x (whole 1)) e ∙ whole_add k 1 (omega arith) (lit≤ tt))

  elsewhere : (j : ℕ) (v : Float) → (j ≡ i → ⊥) → CountsBy (λ s. raised s j v) 0
  unfolding raised
  elsewhere j v f s k l e h = (length-set s j _ ∙ l, get_or-set_other s j i _ nan (λ p. f (sym p)) ∙ e ∙ ap whole (omega arith))

  pass : (step : ℕ → List Float → List Float) (f : ℕ → ℕ) (first n : ℕ) → ((j : ℕ) → j < n → CountsBy (step (first + j)) (f (first + j))) → CountsBy (through step first n) (total f first n)
  unfolding through total
  pass step f first zero c s k l e h = nothing s k l e h
  pass step f first (suc n) c s k l e h =
      let p = pass step f first n (λ j q. c j (omega arith)) s k l e (omega arith) in
      let r = c n (omega arith) (through step first n s) (k + total f first n) p.0 p.1 (omega arith) in
      (r.0, r.1 ∙ ap whole (omega arith))

  -- a pass that adds nothing to it
  idle : (step : ℕ → List Float → List Float) (first n : ℕ) → ((j : ℕ) → j < n → CountsBy (step (first + j)) 0) → CountsBy (through step first n) 0
  idle step first n c = subst (CountsBy (through step first n)) (total_none first n) (pass step (λ _. 0) first n c)

  -- an entry that names j, under a test that i fails
  spared : (test : Bool) (j : ℕ) (v : Float) → (j ≡ i → test ≡ false) → CountsBy (λ s. cond test (raised s j v) s) 0
  spared test j v h = by_none test (λ s. raised s j v) (λ t. elsewhere j v (λ p. true≢false (sym t ∙ h p)))

  -- and under one that i passes
  met : i < features → (test : Bool) (j : ℕ) → (j ≡ i → test ≡ true) → CountsBy (λ s. cond test (raised s j (whole 1)) s) (cond (eqb j i) 1 0)
  met f test j h = go (eqb j i) (eqb-true j i) (eqb-false j i)
    where
      go : (b : Bool) → (b ≡ true → j ≡ i) → (b ≡ false → j ≡ i → ⊥) → CountsBy (λ s. cond test (raised s j (whole 1)) s) (cond b 1 0)
      go true p q = rw (h (p refl), p refl) (here f)
      go false p q = by_none test (λ s. raised s j (whole 1)) (λ _. elsewhere j (whole 1) (q refl))

module _ (m : Model) (i : ℕ) (f : i < m.features.count) (kind : get_or m.features.kinds i 0 ≡ State) where
  abbrev Adds : (List Float → List Float) → ℕ → Type 0
  Adds = CountsBy m.features.count i

  abbrev destination : ℕ
  destination = get_or m.features.destinations i 0

  -- the tests of an entry that names j
  abbrev counted : ℕ → ℕ → Bool
  counted label j = eqb (get_or m.features.kinds j 0) State && eqb (get_or m.features.destinations j 0) label

  abbrev follows : ℕ → ℕ → ℕ → Bool
  follows previous label j = eqb (get_or m.features.kinds j 0) Transition && (eqb (get_or m.features.sources j 0) previous && eqb (get_or m.features.destinations j 0) label)

  counted_by : (label j : ℕ) (b : Bool) → eqb destination label ≡ b → j ≡ i → counted label j ≡ b
  counted_by label j b t p = rw (p, eq-eqb _ _ kind, t)

  follows_not : (previous label j : ℕ) → j ≡ i → follows previous label j ≡ false
  follows_not previous label j p = rw (p, kind)

  -- a word of the feature's own label, and of another
  attribute_adds : (d : Words) (label a : ℕ) → eqb destination label ≡ true → get_or d.values a nan ≡ whole 1 → Adds (counted_at m d label a) (times_for m i d a)
  unfolding counted_at counted_attribute times_for times_in_list state_count
  attribute_adds d label a t v =
      rw v (by_test m.features.count i (ltb (get_or d.ids a 0) m.attribute_lists_of.count) _ _ (λ _.
      pass m.features.count i (state_count m label (whole 1)) (λ place. cond (eqb (get_or m.attribute_lists_of.entries place 0) i) 1 0) _ _ (λ j _.
      met m.features.count i f _ _ (counted_by label _ true t))))

  attribute_idle : (d : Words) (label a : ℕ) → eqb destination label ≡ false → Adds (counted_at m d label a) 0
  unfolding counted_at counted_attribute state_count
  attribute_idle d label a t =
      by_none m.features.count i (ltb (get_or d.ids a 0) m.attribute_lists_of.count) _ (λ _.
      idle m.features.count i (state_count m label (get_or d.values a nan)) _ _ (λ j _. spared m.features.count i _ _ _ (counted_by label _ false t)))

  word_adds : (d : Words) (first : ℕ) (labels : List ℕ) (word : ℕ) → ((a : ℕ) → start d.starts (first + word) ≤ a → a < start d.starts (first + word + 1) → get_or d.values a nan ≡ (whole 1)) →
      Adds (counted_word m d first labels word) (cond (eqb destination (get_or labels word 0)) (times_at m i d (first + word)) 0)
  unfolding counted_word times_at
  word_adds d first labels word v = go (eqb destination (get_or labels word 0)) refl
    where
      go : (b : Bool) → eqb destination (get_or labels word 0) ≡ b → Adds (counted_word m d first labels word) (cond b (times_at m i d (first + word)) 0)
      go true t =
          pass m.features.count i (counted_at m d (get_or labels word 0)) (times_for m i d) (start d.starts (first + word)) (size d.starts (first + word)) (λ j h. attribute_adds d (get_or labels word 0) _ t (v _ (omega arith) (omega arith)))
      go false t = idle m.features.count i (counted_at m d (get_or labels word 0)) (start d.starts (first + word)) (size d.starts (first + word)) (λ j h. attribute_idle d (get_or labels word 0) _ t)

  transition_idle : (labels : List ℕ) (word : ℕ) → Adds (counted_transition m labels word) 0
  unfolding counted_transition transition_count_of
  transition_idle labels word =
      by_none m.features.count i (ltb (get_or labels (word - 1) 0) m.label_lists_of.count) _ (λ _.
      idle m.features.count i (transition_count_of m (get_or labels (word - 1) 0) (get_or labels word 0)) _ _ (λ j _. spared m.features.count i _ _ _ (follows_not (get_or labels (word - 1) 0) (get_or labels word 0) _)))

pub state_counts_whole : StateCountsWhole
unfolding counts_of matching of_int
state_counts_whole m d first words labels i f kind ones h =
    let n = m.features.count in
    let s = replicate n nought in
    let p = pass n i (counted_word m d first labels) (λ word. cond (eqb (get_or m.features.destinations i 0) (get_or labels word 0)) (times_at m i d (first + word)) 0) 0 words (λ j q. word_adds m i f kind d first labels (0 + j) (λ a u w. ones (0 + j) a (omega arith) u w)) s 0 (length-replicate n nought) (get_or-replicate n i nought nan f) (omega (arith, h)) in
    let q = idle n i (counted_transition m labels) 1 (words - 1) (λ j _. transition_idle m i f kind labels (1 + j)) (through (counted_word m d first labels) 0 words s) (0 + matching m i d first words labels) p.0 p.1 (omega (arith, h)) in
    let z : 0 + matching m i d first words labels + 0 ≡ matching m i d first words labels = omega arith in
    q.1 ∙ ap whole z

-- ---- document 01's bounds
total_most : (f : ℕ → ℕ) (c first n : ℕ) → ((j : ℕ) → j < n → f (first + j) ≤ c) → total f first n ≤ c * n
unfolding total
total_most f c first zero h = omega arith
total_most f c first (suc n) h = omega (arith, total_most f c first n (λ j k. h j (omega arith)), h n (omega arith))

cond_most : (b : Bool) (n c : ℕ) → (b ≡ true → n ≤ c) → cond b n 0 ≤ c
cond_most true n c h = h refl
cond_most false n c h = omega arith

list_most : (m : Model) (i a : ℕ) → times_in_list m i a ≤ size m.attribute_lists_of.starts a
unfolding times_in_list
list_most m i a =
    let starts = m.attribute_lists_of.starts in
    omega (arith, total_most (λ place. cond (eqb (get_or m.attribute_lists_of.entries place 0) i) 1 0) 1 (start starts a) (size starts a) (λ j _. cond_most (eqb (get_or m.attribute_lists_of.entries (start starts a + j) 0) i) 1 1 (λ _. omega arith)))

module _ (m : Model) (d : Words) (i : ℕ) (lists : (a : ℕ) → a < m.attribute_lists_of.count → start m.attribute_lists_of.starts (a + 1) ≤ most the_attribute_entries) where
  attribute_most : (a : ℕ) → times_for m i d a ≤ most the_attribute_entries
  unfolding times_for
  attribute_most a = cond_most (ltb (get_or d.ids a 0) m.attribute_lists_of.count) _ (most the_attribute_entries) (λ t. omega (arith, list_most m i (get_or d.ids a 0), lists (get_or d.ids a 0) (ltb-true _ _ t)))

  word_most : (word : ℕ) → times_at m i d word ≤ most the_attribute_entries * size d.starts word
  unfolding times_at
  word_most word = total_most (times_for m i d) (most the_attribute_entries) (start d.starts word) (size d.starts word) (λ j _. attribute_most (start d.starts word + j))

  -- words that add no more than their attributes can add no more than the attributes up to their end can
  words_most : (first words : ℕ) (f : ℕ → ℕ) → ((word : ℕ) → f word ≤ times_at m i d (first + word)) → ((word : ℕ) → word < words → start d.starts (first + word) ≤ start d.starts (first + word + 1)) →
      total f 0 words ≤ most the_attribute_entries * start d.starts (first + words)
  unfolding total
  words_most first zero f h r = omega arith
  words_most first (suc n) f h r =
      let e : first + suc n ≡ first + n + 1 = omega arith in
      rw (zero-add n, e) (omega (arith, words_most first n f h (λ word k. r word (omega arith)), h n, word_most (first + n), r n (omega arith)))

pub matching_fits : MatchingFits
unfolding matching
matching_fits m d first words labels i b =
    omega (arith, words_most m d i b.entries first words _ (λ word. cond_most (eqb (get_or m.features.destinations i 0) (get_or labels word 0)) (times_at m i d (first + word)) (times_at m i d (first + word)) (λ _. le_refl _)) b.rising, b.attributes)
