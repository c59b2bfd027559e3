-- The places that code reads off the starts are those of the attribute's list. Assumes nothing.
use mathlib.Core.Bool.{Bool, true, false, cond}
use mathlib.Core.Path.{◌≡◌, refl, ap, ◌∙◌}
use mathlib.Core.List.{List}
use Prim.Native.Nat.{ℕ, ◌+◌, ◌-◌, ◌<◌, min, zero-le}
use native.Mathlib.Omega.{arith}
use lib.Dec.{ltb}
use lib.ListN.{get_or}
use lib.Ieee.{Float, nan}
use borrow.Author.Tests.{lt-ltb, ltb-true}
use Rattle.lines.specs.declared.Attribute.{Attribute}
use Rattle.lines.specs.declared.Span.{Span}
use Rattle.lines.specs.Passes.{through, through_list, start}
use Rattle.lines.specs.Sound.{SoundLists}
use Rattle.lines.specs.Spans.{attribute_before_of, span_of, through_span, SoundSpan}

pub attribute_there : (ids : List ℕ) (values : List Float) (end a : ℕ) → a < end → ◌≡◌ {A = Attribute} (attribute_before_of ids values end a) (record { id = get_or ids a 0; value = get_or values a nan })
unfolding attribute_before_of
attribute_there ids values end a h =
    let e : min a (end - 1) ≡ a = omega arith in
    rw e

-- "An attribute id without a list is ignored": it has no places
pub span_pass : {S : Type 0} (step : ℕ → S → S) (lists : ℕ) (starts : List ℕ) (id : ℕ) (s : S) → through_span step (span_of lists starts id) s ≡ cond (ltb id lists) (through_list step starts id s) s
unfolding span_of through
span_pass step lists starts id s = by_case (ltb id lists)
  where
    by_case : (b : Bool) → through_span step (cond b (record { first = start starts id; last = start starts (id + 1) }) (record { first = 0; last = 0 })) s ≡ cond b (through_list step starts id s) s
    by_case true = refl
    by_case false = refl

pub span_sound : {lists : ℕ} {starts entries : List ℕ} {features : ℕ} → SoundLists lists starts entries features → (id : ℕ) → SoundSpan (span_of lists starts id) entries features
unfolding span_of
span_sound {lists} {starts} {entries} {features} l id = by_case (ltb id lists) (λ t. ltb-true id lists t)
  where
    by_case : (b : Bool) → (b ≡ true → id < lists) → SoundSpan (cond b (record { first = start starts id; last = start starts (id + 1) }) (record { first = 0; last = 0 })) entries features
    by_case true h = record { within = l.within id (h refl); ids = λ e k. l.ids id e (h refl) k }
    by_case false h = record { within = zero-le; ids = λ e k. omega arith }

-- the steps at the places that stand ready for an attribute are those of its list
pub attribute_turn : {S : Type 0} (step : Float → ℕ → S → S) (lists : ℕ) (starts ids : List ℕ) (values : List Float) (end a : ℕ) {attribute : Attribute} {span : Span} (t : S) {u : S} →
    a < end → attribute ≡ attribute_before_of ids values end a → span ≡ span_of lists starts attribute.id → u ≡ through_span (step attribute.value) span t →
    u ≡ cond (ltb (get_or ids a 0) lists) (through_list (step (get_or values a nan)) starts (get_or ids a 0) t) t
attribute_turn step lists starts ids values end a {attribute} t h p q r =
    r
    ∙ ap (λ (z : Span). through_span (step attribute.value) z t) q
    ∙ span_pass (step attribute.value) lists starts attribute.id t
    ∙ ap (λ (z : Attribute). cond (ltb z.id lists) (through_list (step z.value) starts z.id t) t) (p ∙ attribute_there ids values end a h)

pub list_turn : {S : Type 0} (step : ℕ → S → S) (lists : ℕ) (starts : List ℕ) (list : ℕ) {span : Span} (t : S) {u : S} →
    list < lists → span ≡ span_of lists starts list → u ≡ through_span step span t → u ≡ through_list step starts list t
list_turn step lists starts list t h q r =
    r
    ∙ ap (λ (z : Span). through_span step z t) q
    ∙ span_pass step lists starts list t
    ∙ ap (λ (b : Bool). cond b (through_list step starts list t) t) (lt-ltb list lists h)
