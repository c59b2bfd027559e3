-- What one read after another puts into a buffer, and one write after another behind what is written. Assumes nothing.
use mathlib.Core.Path.{◌≡◌, refl, sym, ap, ◌∙◌}
use mathlib.Core.List.{List, [], ◌++◌, append_assoc, append-nil}
use Prim.Native.Nat.{ℕ, ◌+◌, ◌-◌, ◌≤◌, ◌<◌}
use native.Mathlib.Omega.{arith}
use borrow.Author.Tests.{ltb-true, ltb-false}
use borrow.Rule.Slice.PartMut.{put_mid, post_of}
use lib.Dec.{ltb}
use lib.ListN.{length, take, drop}
use lib.Seq.{take-nil, take_at, take_all, length-take-le, take-append-le, take-append-add, take-add}
use Rattle.std.proofs.lemmas.List.{take_rest}
use Rattle.std.specs.Prelude.{None, Some, IfSome}
use Rattle.std.specs.declared.option.Option.{Option}
use Rattle.decode_sheet.specs.Program.{printed_line, Printed}
use Rattle.answer_file.specs.EveryFile.{PrintedOfEvery, IsLineOf}
use Rattle.std.specs.Io.KnownBytes.{Appends, Consumes, IsAtEnd}
use mathlib.Core.Bool.{Bool, true, false}

-- a read into the buffer from a on gave n bytes
pub read_more : (a k n : ℕ) (xs ys : List ℕ) → a ≤ length xs → n ≤ length ys → take (a + n) (put_mid a k xs ys) ≡ take a xs ++ take n ys
read_more a k n xs ys h l =
    let e = length-take-le a xs h in
    ap (λ (m : ℕ). take (m + n) (take a xs ++ (ys ++ post_of a k xs))) (sym e)
    ∙ take-append-add (take a xs) (ys ++ post_of a k xs) n
    ∙ ap (λ (r : List ℕ). take a xs ++ r) (take-append-le n ys (post_of a k xs) l)

-- a write of the line from a on took n bytes
pub write_more : (a n : ℕ) (line : List ℕ) → take (a + n) line ≡ take a line ++ take n (take (length line - a) (drop a line))
write_more a n line = take-add a n line ∙ ap (λ (r : List ℕ). take a line ++ take n r) (sym (take_rest line a))

pub consumes_then : (u v w : Option (List ℕ)) (a b : List ℕ) → Consumes u v a → Consumes v w b → Consumes u w (a ++ b)
consumes_then None v w a b x y = tt
consumes_then (Some xs) None w a b x y = absurd x
consumes_then (Some xs) (Some ys) None a b x y = y
consumes_then (Some xs) (Some ys) (Some zs) a b x y = x ∙ ap (λ (t : List ℕ). a ++ t) y ∙ sym (append_assoc a b zs)

pub appends_then : (u v w : Option (List ℕ)) (a b : List ℕ) → Appends u v a → Appends v w b → Appends u w (a ++ b)
appends_then None v w a b x y = tt
appends_then (Some xs) None w a b x y = absurd x
appends_then (Some xs) (Some ys) None a b x y = y
appends_then (Some xs) (Some ys) (Some zs) a b x y = y ∙ ap (λ (t : List ℕ). t ++ b) x ∙ append_assoc xs a b

-- what was read stands in front of a known file, and is all of it or fills the buffer
pub read_front : (known new : Option (List ℕ)) (buffer : List ℕ) (n : ℕ) → n ≤ length buffer → Consumes known new (take n buffer) → (n < length buffer → IsAtEnd new) → IfSome known (λ file. take (length buffer) file ≡ take n buffer)
read_front None new buffer n h c e = tt
read_front (Some file) None buffer n h c e = absurd c
read_front (Some file) (Some rest) buffer n h c e = go (ltb n (length buffer)) refl
  where
    taken : length (take n buffer) ≡ n
    taken = length-take-le n buffer h

    go : (b : Bool) → ltb n (length buffer) ≡ b → take (length buffer) file ≡ take n buffer
    go true t =
        let same : file ≡ take n buffer = c ∙ ap (λ (r : List ℕ). take n buffer ++ r) (e (ltb-true n (length buffer) t)) ∙ append-nil (take n buffer) in
        rw same (take_all (length buffer) (take n buffer) (omega (arith, taken)))
    go false t =
        let f = ltb-false n (length buffer) t in
        rw c (take_at (take n buffer) rest (length buffer) (omega (arith, taken)))

-- the line in its buffer
line_in : {file before : List ℕ} {size : ℕ} {after : List ℕ} → Printed file before size after → take size after ≡ printed_line file
line_in {file} {before} p = rw (p.counted, p.written) (take_at (printed_line file) (drop (length (printed_line file)) before) (length (printed_line file)) refl)

-- the line in front of its buffer answers what was read
module _ (buffer : List ℕ) (n : ℕ) {before : List ℕ} {size : ℕ} {after : List ℕ} (printed : PrintedOfEvery buffer n before size after) where
  known_line : (known : Option (List ℕ)) → IfSome known (λ file. take (length buffer) file ≡ take n buffer) → IfSome known (λ file. take size after ≡ printed_line file)
  known_line None e = tt
  known_line (Some file) e = line_in (printed file e)

  pub line_of : (known new : Option (List ℕ)) → n ≤ length buffer → (0 < n → Consumes known new (take n buffer)) → (0 < n → n < length buffer → IsAtEnd new) → IsLineOf known n (take size after)
  line_of known new h c e =
      record {
        some_read = λ some. known_line known (read_front known new buffer n h (c some) (e some));
        none_read = λ none. line_in (printed [] (rw none (take-nil (length buffer))));
      }
