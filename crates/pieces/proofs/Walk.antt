-- From one piece to the next. Assumes nothing.
use mathlib.Core.Path.{◌≡◌, refl, sym, ap, subst, ◌∙◌}
use mathlib.Core.Bool.{Bool, true, false}
use mathlib.Core.List.{List, [], ◌∷◌, ◌++◌, append_assoc}
use Prim.Native.Nat.{ℕ, ◌+◌, ◌≤◌, ◌<◌}
use native.Mathlib.Omega.{arith}
use lib.Dec.{eqb}
use lib.ListN.{length, drop, get_or, length-drop, drop_of_length-le, get_or-eq_default}
use borrow.Author.Tests.{ltb-false, lt-ltb, le-ltb}
use Rattle.layout.specs.Layout.{Bytes, escaped, scale_text, Clean, Name, Digits, minus_text, Part, none as no_part, point as pointed, part_text, fraction, Scale, KeptText, Line, EachSound, SoundText, WellFormed}
use Rattle.text_tables.specs.Pieces.{Piece, blank, label, attribute, pieces_of}
use Rattle.pieces.specs.declared.Cursor.{Cursor}
use Rattle.pieces.specs.declared.Span.{Span}
use Rattle.pieces.specs.PieceText.{kind_of, name_in, kept_in, is_field, piece_text, parting, more_text, pieces_text, SoundPiece}
use Rattle.pieces.specs.Standing.{name_ends, field_ends, Named, Fielded, Behind, PiecesAhead, PieceMet, Follows, AtStart}
use Rattle.pieces.proofs.Parts.{here, part_of, drop_past, fits}
use Rattle.pieces.proofs.Names.{first, further}
use Rattle.pieces.proofs.Made.{same_text, sound_pieces, some_first, line_first}

-- ---- what sound pieces are made of

clean_name : (p : Piece) → SoundPiece p → Clean (name_in p)
clean_name blank g = tt
clean_name (label n) g = name n g
  where
    name : (n : Bytes) → Name n → Clean n
    name [] g = tt
    name (b ∷ n) g = g
clean_name (attribute a) g = name a.name g.0
  where
    name : (n : Bytes) → Name n → Clean n
    name [] g = tt
    name (b ∷ n) g = g

clean_digits : (ds t : Bytes) → Digits ds → Clean t → Clean (ds ++ t)
clean_digits [] t g h = h
clean_digits (b ∷ ds) t g h = ((λ e. omega (arith, g.0, e)), (λ e. omega (arith, g.0, e)), clean_digits ds t g.2 h)

clean_part : (p : Part) → Digits (fraction p) → Clean (part_text p)
clean_part no_part g = tt
clean_part (pointed ds) g = ((λ e. omega (arith, e)), (λ e. omega (arith, e)), all ds g)
  where
    all : (ds : Bytes) → Digits ds → Clean ds
    all [] g = tt
    all (b ∷ ds) g = ((λ e. omega (arith, g.0, e)), (λ e. omega (arith, g.0, e)), all ds g.2)

clean_minus : (m : Bool) (t : Bytes) → Clean t → Clean (minus_text m ++ t)
clean_minus true t h = ((λ e. omega (arith, e)), (λ e. omega (arith, e)), h)
clean_minus false t h = h

clean_scale : {t : Bytes} → Scale t → Clean t
clean_scale h = subst Clean h.made (clean_minus h.minus (h.whole ++ part_text h.part) (clean_digits h.whole (part_text h.part) h.whole_digits (clean_part h.part h.part_digits)))

clean_kept : (k : Bytes) → KeptText k → Clean (scale_text k)
unfolding scale_text
clean_kept [] g = tt
clean_kept (b ∷ s) g = ((λ e. omega (arith, e)), (λ e. omega (arith, e)), clean_scale g)

pub kept_sound : (p : Piece) → SoundPiece p → KeptText (kept_in p)
kept_sound blank g = tt
kept_sound (label n) g = tt
kept_sound (attribute a) g = g.1

ends_field : (rest : List Piece) → field_ends (more_text rest) ≡ true
unfolding more_text
ends_field [] = refl
ends_field (blank ∷ rest) = refl
ends_field (label n ∷ rest) = refl
ends_field (attribute a ∷ rest) = refl

ends_name : (k : Bytes) (rest : List Piece) → name_ends (scale_text k ++ more_text rest) ≡ true
unfolding scale_text more_text
ends_name [] [] = refl
ends_name [] (blank ∷ rest) = refl
ends_name [] (label n ∷ rest) = refl
ends_name [] (attribute a ∷ rest) = refl
ends_name (b ∷ s) rest = refl

-- ---- the piece ahead

split_text : {text : Bytes} {c : Cursor} {p : Piece} {rest : List Piece} → PiecesAhead text c (p ∷ rest) → drop c.at text ≡ escaped (name_in p) ++ (scale_text (kept_in p) ++ more_text rest)
split_text {text} {c} {p} {rest} a = a.bytes ∙ made ∙ append_assoc (escaped (name_in p)) (scale_text (kept_in p)) (more_text rest)
  where
    made : pieces_text (p ∷ rest) ≡ (escaped (name_in p) ++ scale_text (kept_in p)) ++ more_text rest
    made = unfold pieces_text in refl

-- where pieces are ahead the cursor stands within the text
pub ahead_inside : {text : Bytes} {c : Cursor} {p : Piece} {rest : List Piece} → PiecesAhead text c (p ∷ rest) → c.at ≤ length text
ahead_inside a = ltb-false _ _ a.over

-- a name and what ends it, from a place on
pub named_from : (text : Bytes) (at : ℕ) (name rest : Bytes) → at ≤ length text → Clean name → drop at text ≡ escaped name ++ rest → name_ends rest ≡ true
    → Named text at (at + length (escaped name)) name
named_from text at name rest h g e k =
    let n = escaped name in
    record {
      clean = g;
      low = omega arith;
      inside = fits text at n rest h e;
      bytes = part_of text at (at + length n) n rest e refl;
      ends = ap name_ends (drop_past text at (at + length n) n rest e refl) ∙ k;
    }

pub ahead_named : {text : Bytes} {c : Cursor} {p : Piece} {rest : List Piece} → PiecesAhead text c (p ∷ rest) → Named text c.at (c.at + length (escaped (name_in p))) (name_in p)
ahead_named {text} {c} {p} {rest} a =
    named_from text c.at (name_in p) (scale_text (kept_in p) ++ more_text rest) (ahead_inside a) (clean_name p a.sound.0) (split_text a) (ends_name (kept_in p) rest)

pub ahead_fielded : {text : Bytes} {c : Cursor} {p : Piece} {rest : List Piece} {split : ℕ} → PiecesAhead text c (p ∷ rest) → split ≡ c.at + length (escaped (name_in p))
    → Fielded text split (split + length (scale_text (kept_in p)))
ahead_fielded {text} {c} {p} {rest} {split} a h =
    let n = escaped (name_in p) in
    let y = scale_text (kept_in p) in
    let d : drop split text ≡ y ++ more_text rest = drop_past text c.at split n (y ++ more_text rest) (split_text a) h in
    let i : split ≤ length text = subst (λ (k : ℕ). k ≤ length text) (sym h) (fits text c.at n (y ++ more_text rest) (ahead_inside a) (split_text a)) in
    record {
      clean = subst Clean (sym (part_of text split (split + length y) y (more_text rest) d refl)) (clean_kept (kept_in p) (kept_sound p a.sound.0));
      low = omega arith;
      inside = fits text split y (more_text rest) i d;
      ends = ap field_ends (drop_past text split (split + length y) y (more_text rest) d refl) ∙ ends_field rest;
    }

pub met : {text : Bytes} {c : Cursor} {p : Piece} {rest : List Piece} (s : Span) → PiecesAhead text c (p ∷ rest) → s.kind ≡ kind_of p → s.from ≡ c.at
    → s.split ≡ c.at + length (escaped (name_in p)) → s.to ≡ s.split + length (scale_text (kept_in p)) → PieceMet text c s p rest
met {text} {c} {p} {rest} s a k f h t =
    let n = escaped (name_in p) in
    let y = scale_text (kept_in p) in
    let r = y ++ more_text rest in
    let d : drop s.split text ≡ r = drop_past text c.at s.split n r (split_text a) h in
    let g = ahead_fielded a h in
    let i : s.to ≤ length text = subst (λ (j : ℕ). j ≤ length text) (sym t) g.inside in
    record {
      from = f;
      stands = record {
        kind = k;
        name = subst (λ (j : ℕ). Named text j s.split (name_in p)) (sym f) (subst (λ (j : ℕ). Named text c.at j (name_in p)) (sym h) (ahead_named a));
        low = omega (arith, t);
        inside = i;
        scale = part_of text s.split s.to y (more_text rest) d t;
        sound = a.sound.0;
      };
      behind = record { inside = i; bytes = drop_past text s.split s.to y (more_text rest) d t; sound = a.sound.1 };
    }

-- ---- the cursor behind a piece

pub followed : (text : Bytes) (to : ℕ) (c : Cursor) → c.at ≡ to + 1 → c.field ≡ eqb (get_or text to 0) 9 → Follows text to c
followed text to c h f = record { on = h; ahead = go }
  where
    over : Behind text to [] → length text ≤ to
    over b = let l = sym (length-drop to text) ∙ ap length (b.bytes ∙ nil) in omega (arith, l)
      where
        nil : more_text [] ≡ []
        nil = unfold more_text in refl

    under : (p : Piece) (rest : List Piece) → Behind text to (p ∷ rest) → to < length text
    under p rest b = let l = sym (length-drop to text) ∙ ap length (b.bytes ∙ some) in omega (arith, l)
      where
        some : more_text (p ∷ rest) ≡ parting p ∷ (piece_text p ++ more_text rest)
        some = unfold more_text in refl

    tab : (p : Piece) → eqb (parting p) 9 ≡ is_field p
    tab blank = refl
    tab (label n) = refl
    tab (attribute a) = refl

    go : (rest : List Piece) → Behind text to rest → PiecesAhead text c rest
    go [] b = record {
      inside = omega (arith, h, b.inside);
      over = lt-ltb (length text) c.at (omega (arith, h, over b));
      field = f ∙ ap (λ (x : ℕ). eqb x 9) (get_or-eq_default text 0 (over b));
      bytes = drop_of_length-le text {i = c.at} (omega (arith, h, over b)) ∙ nil;
      sound = tt;
    }
      where
        nil : [] ≡ pieces_text []
        nil = unfold pieces_text in refl
    go (p ∷ rest) b =
        let e : get_or text to 0 ∷ drop (to + 1) text ≡ parting p ∷ (piece_text p ++ more_text rest) = sym (here text to (under p rest b)) ∙ b.bytes ∙ some in
        record {
          inside = omega (arith, h, b.inside);
          over = le-ltb (length text) c.at (omega (arith, h, under p rest b));
          field = f ∙ ap (λ (x : ℕ). eqb x 9) (first e) ∙ tab p;
          bytes = ap (λ (k : ℕ). drop k text) h ∙ further e ∙ made;
          sound = b.sound;
        }
      where
        some : more_text (p ∷ rest) ≡ parting p ∷ (piece_text p ++ more_text rest)
        some = unfold more_text in refl

        made : piece_text p ++ more_text rest ≡ pieces_text (p ∷ rest)
        made = unfold pieces_text in refl

pub followed_past : (text : Bytes) (to : ℕ) (c : Cursor) → length text ≤ to → c.at ≡ to + 1 → c.field ≡ false → Follows text to c
followed_past text to c past h f = followed text to c h (f ∙ ap (λ (x : ℕ). eqb x 9) (sym (get_or-eq_default text 0 past)))

-- ---- the start

pub started : (text : Bytes) → AtStart text (record { at = 0; field = false })
started text = record { ahead = go }
  where
    each : (ls : List Line) → SoundText ls → EachSound ls
    each [] s = tt
    each (l ∷ ls) s = s

    go : (h : WellFormed text) → PiecesAhead text (record { at = 0; field = false }) (pieces_of h.lines)
    go h = record {
      inside = omega arith;
      over = le-ltb (length text) 0 (omega arith) ∙ sym (some_first h.lines h.sound);
      field = sym (line_first h.lines h.sound);
      bytes = sym h.made ∙ sym (same_text h.lines h.sound);
      sound = sound_pieces h.lines (each h.lines h.sound);
    }
