-- The laws of a loop over pieces: at its start, at each piece, at its end. Assumes nothing.
use mathlib.Core.Path.{◌≡◌, refl, sym, ap, subst, ◌∙◌}
use mathlib.Core.Bool.{true, false, true≢false, false≢true}
use mathlib.Core.List.{List, [], ◌∷◌}
use Prim.Native.Nat.{◌≤◌, ◌<◌}
use native.Mathlib.Omega.{arith}
use lib.ListN.{length}
use borrow.Author.Tests.{lt-ltb, le-ltb}
use Rattle.layout.specs.Layout.{Bytes, WellFormed}
use Rattle.text_tables.specs.Pieces.{Piece, pieces_of, after_each}
use Rattle.pieces.specs.declared.Cursor.{Cursor}
use Rattle.pieces.specs.declared.Span.{Span}
use Rattle.pieces.specs.Standing.{Stands, none_left, PiecesAhead, SomePieceAhead, PieceMet, Finds, Follows, AtStart}
use Rattle.pieces.specs.Passing.{Passed}

-- pieces are ahead exactly while the cursor stands within the text
pub some_ahead : {text : Bytes} {c : Cursor} {rest : List Piece} → PiecesAhead text c rest → c.at ≤ length text → (p : Piece) × (more : List Piece) × (rest ≡ p ∷ more)
some_ahead {text} {c} {rest} a h = go rest (sym (le-ltb (length text) c.at h) ∙ a.over)
  where
    go : (rest : List Piece) → false ≡ none_left rest → (p : Piece) × (more : List Piece) × (rest ≡ p ∷ more)
    go [] e = absurd (false≢true e)
    go (p ∷ more) e = (p, more, refl)

pub none_ahead : {text : Bytes} {c : Cursor} {rest : List Piece} → PiecesAhead text c rest → length text < c.at → rest ≡ []
none_ahead {text} {c} {rest} a h = go rest (sym (lt-ltb (length text) c.at h) ∙ a.over)
  where
    go : (rest : List Piece) → true ≡ none_left rest → rest ≡ []
    go [] e = refl
    go (p ∷ more) e = absurd (true≢false e)

-- the next cursor stands further on
pub further_on : {text : Bytes} {c next : Cursor} {span : Span} {p : Piece} {rest : List Piece} → PieceMet text c span p rest → Follows text span.to next → c.at < next.at
further_on m f = omega (arith, m.from, m.stands.name.low, m.stands.low, f.on)

module _ {S : Type 0} {step : S → Piece → S} {begin : S} {text : Bytes} where
  pub passed_starts : {c : Cursor} → AtStart text c → Passed step begin text c begin
  passed_starts s h = record { rest = pieces_of h.lines; ahead = s.ahead h; same = refl }

  -- what `piece_at` requires
  pub passed_some : {c : Cursor} {state : S} → Passed step begin text c state → WellFormed text → c.at ≤ length text → SomePieceAhead text c
  passed_some w h k =
      let a = w h in
      let s = some_ahead a.ahead k in
      (s.0, s.1, subst (PiecesAhead text _) s.2 a.ahead)

  -- the piece that was found, for what further calls require
  pub passed_met : {c : Cursor} {state : S} {span : Span} → Passed step begin text c state → WellFormed text → c.at ≤ length text → Finds text c span
      → (p : Piece) × (rest : List Piece) × PieceMet text c span p rest
  passed_met w h k f = let s = passed_some w h k in (s.0, s.1, f.met s.0 s.1 s.2)

  -- one piece more, whichever it is
  pub passed_on : {c next : Cursor} {state later : S} {span : Span} → Passed step begin text c state → c.at ≤ length text → Finds text c span → Follows text span.to next
      → ((p : Piece) → Stands text span p → later ≡ step state p) → Passed step begin text next later
  passed_on {c} {next} {state} {later} {span} w k f n one h =
      let a = w h in
      let s = some_ahead a.ahead k in
      let m = f.met s.0 s.1 (subst (PiecesAhead text c) s.2 a.ahead) in
      record {
        rest = s.1;
        ahead = n.ahead s.1 m.behind;
        same = ap (λ (z : S). after_each step z s.1) (one s.0 m.stands) ∙ more state s.0 s.1 ∙ ap (after_each step state) (sym s.2) ∙ a.same;
      }
    where
      more : (z : S) (p : Piece) (rest : List Piece) → after_each step (step z p) rest ≡ after_each step z (p ∷ rest)
      more z p rest = unfold after_each in refl

  pub passed_over : {c : Cursor} {state : S} → Passed step begin text c state → length text < c.at → (h : WellFormed text) → state ≡ after_each step begin (pieces_of h.lines)
  passed_over {c} {state} w k h =
      let a = w h in
      over state ∙ ap (after_each step state) (sym (none_ahead a.ahead k)) ∙ a.same
    where
      over : (z : S) → z ≡ after_each step z []
      over z = unfold after_each in refl
