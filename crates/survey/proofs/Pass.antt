-- One piece more, and the pass over all of them. Assumes nothing.
use mathlib.Core.Path.{◌≡◌, refl, sym, ap, subst, ◌∙◌}
use mathlib.Core.List.{List, [], ◌∷◌, map, flatten}
use Prim.Native.Nat.{ℕ, ◌+◌, ◌-◌, ◌≤◌, ◌<◌}
use native.Mathlib.Omega.{arith}
use lib.ListN.{length, take, drop, length-append, take-append-drop}
use Rattle.layout.specs.Layout.{Bytes, escaped, WellFormed}
use Rattle.text_tables.specs.Distinct.{learnt}
use Rattle.text_tables.specs.Pieces.{Piece, blank, label, attribute, pieces_of, after_each}
use Rattle.text_tables.specs.Tally.{Tally, nothing_yet, tallied}
use Rattle.text_tables.proofs.Lists.{each_none, each_next, flatten_append}
use Rattle.text_tables.proofs.InText.{OnTheWay, on_the_way}
use Rattle.pieces.specs.declared.Kind.TheVariants.{Blank, Label, Attribute}
use Rattle.pieces.specs.declared.Cursor.{Cursor}
use Rattle.pieces.specs.declared.Span.{Span}
use Rattle.pieces.specs.PieceText.{name_in}
use Rattle.pieces.specs.Standing.{Stands, PiecesAhead, SomePieceAhead, PieceMet, Finds, Follows, AtStart}
use Rattle.pieces.specs.Passing.{Passing}
use Rattle.pieces.proofs.Spans.{is_blank, is_label, is_attribute}
use Rattle.pieces.proofs.Passes.{some_ahead, none_ahead}
use Rattle.distinct.specs.Slots.{Filed}
use Rattle.distinct.proofs.Learning.{none_known}
use Rattle.survey.specs.declared.Figures.{Figures}
use Rattle.survey.specs.declared.NameSums.{NameSums}
use Rattle.survey.specs.declared.Survey.{Survey}
use Rattle.survey.specs.Surveyed.{untouched, blanked, worded, attributed, KnowsFront, KnowsNames, Surveys, FewFigures, Rooms, StepAsked}
use Rattle.survey.proofs.Figured.{word_tallied, scale_bytes_lem}

-- ---- one piece more

module _ {text : Bytes} {span : Span} {p : Piece} {labels slots positions : List ℕ} {s : Survey} {t : Tally} (before : Surveys text labels slots positions s t) (g : Stands text span p) where
  pub step_blank : {f : Figures} → span.kind ≡ Blank → f ≡ blanked s.figures → Surveys text labels slots positions (record { figures = f; labels = s.labels; names = s.names }) (tallied t p)
  step_blank {f} k e =
      subst (λ (q : Piece). Surveys text labels slots positions (record { figures = f; labels = s.labels; names = s.names }) (tallied t q)) (sym (is_blank p (sym g.kind ∙ k)))
      (record { counted = e ∙ ap blanked before.counted; labelled = before.labelled; named = before.named })

  pub step_label : {f : Figures} {known : NameSums} {after : List ℕ} → span.kind ≡ Label → f ≡ worded s.figures → KnowsFront text after (learnt t.labels (name_in p)) known
      → Surveys text after slots positions (record { figures = f; labels = known; names = s.names }) (tallied t p)
  step_label {f} {known} {after} k e l =
      subst (λ (q : Piece). Surveys text after slots positions (record { figures = f; labels = known; names = s.names }) (tallied t q)) (sym (is_label p (sym g.kind ∙ k)))
      (record { counted = e ∙ ap worded before.counted ∙ word_tallied t (name_in p); labelled = l; named = before.named })

  pub step_attribute : {f : Figures} {known : NameSums} {scale : ℕ} {slots_after after : List ℕ} → span.kind ≡ Attribute → scale ≡ span.to - span.split - 1 → f ≡ attributed s.figures scale
      → KnowsNames text slots_after after (learnt t.names (name_in p)) known → Surveys text labels slots_after after (record { figures = f; labels = s.labels; names = known }) (tallied t p)
  step_attribute {f} {known} {scale} {slots_after} {after} k l e n =
      subst (λ (q : Piece). Surveys text labels slots_after after (record { figures = f; labels = s.labels; names = known }) (tallied t q)) (sym (is_attribute p (sym g.kind ∙ k)))
      (record { counted = e ∙ (λ i. attributed (before.counted i) ((l ∙ scale_bytes_lem g) i)); labelled = before.labelled; named = n })

-- ---- the pass

-- what it has at the cursor: a tally to go on from, and its counts and names
pub record Going (text : Bytes) (all : List Piece) (c : Cursor) (labels slots positions : List ℕ) (s : Survey) : Type 0 where
  pub tally : Tally
  pub passing : Passing tallied nothing_yet all text c tally
  pub surveys : Surveys text labels slots positions s tally
  pub present : tally.present ≤ tally.words

pub record SameLengths (labels₀ slots₀ positions₀ labels slots positions : List ℕ) : Type 0 where
  pub labels_long : length labels ≡ length labels₀
  pub slots_long : length slots ≡ length slots₀
  pub positions_long : length positions ≡ length positions₀

pub same_lengths : (labels slots positions : List ℕ) → SameLengths labels slots positions labels slots positions
same_lengths labels slots positions = record { labels_long = refl; slots_long = refl; positions_long = refl }

pub rooms_on : {text : Bytes} {labels₀ slots₀ positions₀ labels slots positions : List ℕ} → Rooms text labels₀ slots₀ positions₀ → SameLengths labels₀ slots₀ positions₀ labels slots positions → Rooms text labels slots positions
rooms_on r l = record {
  small = r.small;
  labels_few = omega (arith, r.labels_few, l.labels_long);
  room = omega (arith, r.room, l.slots_long, l.positions_long);
  slots_few = omega (arith, r.slots_few, l.slots_long);
}

nothing_known : (text : Bytes) (places : List ℕ) → KnowsFront text places [] (record { count = 0; bytes = 0 })
nothing_known text [] = record { knows = none_known text []; bytes = nil }
  where
    nil : 0 ≡ length {A = ℕ} (flatten [])
    nil = unfold flatten in refl
nothing_known text (x ∷ places) = record { knows = none_known text (x ∷ places); bytes = nil }
  where
    nil : 0 ≡ length {A = ℕ} (flatten [])
    nil = unfold flatten in refl

pub going_starts : {text : Bytes} {c : Cursor} {labels slots positions : List ℕ} {s : Survey} → AtStart text c → s ≡ untouched → Filed (length slots) [] slots → (h : WellFormed text) → Going text (pieces_of h.lines) c labels slots positions s
going_starts {text} {c} {labels} {slots} {positions} {s} a e f h = record {
  tally = nothing_yet;
  passing = record { rest = pieces_of h.lines; ahead = a.ahead h; same = refl };
  surveys = subst (λ (z : Survey). Surveys text labels slots positions z nothing_yet) (sym e) (record {
    counted = refl;
    labelled = nothing_known text labels;
    named = record { listed = nothing_known text positions; filed = none positions };
  });
  present = omega arith;
}
  where
    none : (places : List ℕ) → Filed (length slots) (map escaped (take (length places) [])) slots
    none [] = f
    none (x ∷ places) = f

module _ {text : Bytes} {all : List Piece} {c : Cursor} {labels slots positions : List ℕ} {s : Survey} (g : Going text all c labels slots positions s) where
  pub going_some : c.at ≤ length text → SomePieceAhead text c
  going_some k =
      let e = some_ahead g.passing.ahead k in
      (e.0, e.1, subst (PiecesAhead text c) e.2 g.passing.ahead)

  pub going_met : {span : Span} → c.at ≤ length text → Finds text c span → (p : Piece) × (rest : List Piece) × PieceMet text c span p rest
  going_met k f = let e = going_some k in (e.0, e.1, f.met e.0 e.1 e.2)

  present_on : (t : Tally) (p : Piece) → t.present ≤ t.words → (tallied t p).present ≤ (tallied t p).words
  present_on t blank h = omega arith
  present_on t (label n) h = omega (arith, h)
  present_on t (attribute a) h = h

  pub going_on : {span : Span} {next : Cursor} {labels₁ slots₁ positions₁ : List ℕ} {s₁ : Survey} → c.at ≤ length text → Finds text c span → Follows text span.to next
      → ((t : Tally) (p : Piece) → Surveys text labels slots positions s t → Stands text span p → Surveys text labels₁ slots₁ positions₁ s₁ (tallied t p)) → Going text all next labels₁ slots₁ positions₁ s₁
  going_on {span} {next} k f n one =
      let a = g.passing in
      let e = some_ahead a.ahead k in
      let m = f.met e.0 e.1 (subst (PiecesAhead text c) e.2 a.ahead) in
      record {
        tally = tallied g.tally e.0;
        passing = record {
          rest = e.1;
          ahead = n.ahead e.1 m.behind;
          same = sym (each_next tallied g.tally e.0 e.1) ∙ ap (after_each tallied g.tally) (sym e.2) ∙ a.same;
        };
        surveys = one g.tally e.0 g.surveys m.stands;
        present = present_on g.tally e.0 g.present;
      }

  pub going_over : length text < c.at → Surveys text labels slots positions s (after_each tallied nothing_yet all)
  going_over k =
      subst (Surveys text labels slots positions s) (sym (each_none tallied g.tally) ∙ ap (after_each tallied g.tally) (sym (none_ahead g.passing.ahead k)) ∙ g.passing.same) g.surveys

-- ---- nothing that is counted is above the text's bytes

front_bytes : (n : ℕ) (ns : List Bytes) → length (flatten (take n ns)) ≤ length (flatten ns)
front_bytes n ns =
    let a : length (flatten ns) ≡ length (flatten (take n ns)) + length (flatten (drop n ns)) =
    ap (λ (xs : List Bytes). length (flatten xs)) (sym (take-append-drop n ns)) ∙ ap length (flatten_append (take n ns) (drop n ns)) ∙ length-append (flatten (take n ns)) (flatten (drop n ns)) in
    omega (arith, a)

pub going_asks : {text : Bytes} {c : Cursor} {labels slots positions : List ℕ} {s : Survey} {span : Span} (h : WellFormed text) → Going text (pieces_of h.lines) c labels slots positions s → Rooms text labels slots positions
    → c.at ≤ length text → Finds text c span → StepAsked text labels slots positions s span
going_asks {text} {c} {labels} {slots} {positions} {s} {span} h g r k f =
    let m = going_met g k f in
    let t = g.tally in
    let w : OnTheWay t (length text) = subst (λ (z : Bytes). OnTheWay t (length z)) h.made (on_the_way h.lines h.sound t g.passing.rest g.passing.same) in
    let u = g.surveys.counted in
    let l = front_bytes (length labels) t.labels in
    let n = front_bytes (length positions) t.names in
    record {
      before = t;
      piece = m.0;
      surveys = g.surveys;
      stands = m.2.stands;
      figures = subst FewFigures (sym u) (record {
        sequences = omega (arith, w.sequences, r.small);
        words = omega (arith, w.words, r.small);
        attributes = omega (arith, w.attributes, r.small);
        present = omega (arith, w.words, r.small, g.present);
        scales = omega (arith, w.scale_bytes_of, r.small);
      });
      label_bytes_lem = omega (arith, g.surveys.labelled.bytes, l, w.label_bytes_of, r.small);
      name_bytes_lem = omega (arith, g.surveys.named.listed.bytes, n, w.name_bytes_of, r.small);
      rooms = r;
    }
