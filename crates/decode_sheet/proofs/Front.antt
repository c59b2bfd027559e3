-- One byte past the longest sheet decides the line of a file: the head is in front of it, and a longer file has the wrong length. Assumes nothing.
use Rattle.std.specs.Prelude.{Ok, Err}
use mathlib.Core.Path.{◌≡◌, refl, sym}
use mathlib.Core.Bool.{Bool, true, false}
use mathlib.Core.List.{List}
use mathlib.Core.Logic.{inr}
use Prim.Native.Nat.{ℕ, ◌<◌, ◌≤◌}
use native.Mathlib.Nat.{mul-le-mul}
use native.Mathlib.Omega.{arith}
use borrow.Author.Tests.{le-ltb, ltb-true, ltb-false}
use lib.Dec.{ltb}
use lib.ListN.{length, take}
use lib.Seq.{take_all, length-take-le, get_or-take}
use Rattle.refusals.specs.Refusals.{Checked, refused_at, or_next_of}
use Rattle.refusals.proofs.Laws.{all_accepted}
use Rattle.sheet.specs.Rows.{head_rows}
use Rattle.sheet.specs.RowsMeaning.{InBounds, RightLength}
use Rattle.sheet.proofs.Rows.{head_checked, head_refused, sizes_refused}
use Rattle.sheet.proofs.RowsMeant.{in_bounds, file_means}
use Rattle.answer_line.specs.Line.{path_room}
use Rattle.decode_sheet.specs.Answer.{line_short, buffer_checked, path_line_for}
use Rattle.decode_sheet.specs.Program.{line_said, printed_line}
use Rattle.decode_sheet.specs.Front.{longest_sheet, FrontDecides}
use Rattle.decode_sheet.proofs.Rows.{line_means}

-- the rows of the head are decided by its eight bytes
head_same : (n : ℕ) (file : List ℕ) → 8 ≤ n → n ≤ length file → head_checked (take n file) ≡ head_checked file
unfolding head_checked
head_same n file l h =
    let e = length-take-le n file h in
    let p : 8 ≤ length (take n file) = omega arith in
    let q : 8 ≤ length file = omega arith in
    rw (
      le-ltb (length (take n file)) 8 p,
      le-ltb (length file) 8 q,
      get_or-take n file 0 0 (omega arith),
      get_or-take n file 1 0 (omega arith),
      get_or-take n file 2 0 (omega arith),
      get_or-take n file 3 0 (omega arith),
      get_or-take n file 4 0 (omega arith),
      get_or-take n file 5 0 (omega arith),
      get_or-take n file 6 0 (omega arith),
      get_or-take n file 7 0 (omega arith),
    )

-- no sheet is longer than the longest
too_long : (file : List ℕ) → longest_sheet < length file → InBounds file → RightLength file → ⊥
too_long file h b e =
    let m = mul-le-mul b.labels.high b.labels.high in
    let n = mul-le-mul b.words.high b.labels.high in
    omega arith

-- a longer file: the rows of the head, then 10
pub long_file : (file : List ℕ) (room : ℕ) → path_room ≤ room → longest_sheet < length file → buffer_checked file room ≡ or_next_of (head_checked file) (refused_at 10 0)
unfolding head_checked or_next_of
long_file file room l h = go (head_checked file) refl
  where
    go : (c : Checked) → head_checked file ≡ c → buffer_checked file room ≡ or_next_of (head_checked file) (refused_at 10 0)
    go (Ok _) e =
        let b = (in_bounds file).0 (all_accepted (Ok tt) (head_rows file) e).1 in
        rw e ((file_means file (line_means room)).ten.1 (inr ((b, l), too_long file h b)))
    go (Err why) e = rw e (sym (sizes_refused file (line_short room) why (sym (head_refused file (line_short room) why e))))

-- a file that the head or 10 refuses has no path's line
said_refused : (c : Checked) (a b : List ℕ) → line_said (or_next_of c (refused_at 10 0)) a ≡ line_said (or_next_of c (refused_at 10 0)) b
unfolding or_next_of
said_refused (Ok _) a b = refl
said_refused (Err why) a b = refl

pub front_decides : FrontDecides
unfolding printed_line
front_decides n l file = go (ltb n (length file)) refl
  where
    go : (b : Bool) → ltb n (length file) ≡ b → line_said (buffer_checked (take n file) path_room) (path_line_for (take n file)) ≡ line_said (buffer_checked file path_room) (path_line_for file)
    go true e =
        let h = ltb-true n (length file) e in
        let s = length-take-le n file (omega arith) in
        rw (long_file (take n file) path_room (omega arith) (omega arith), long_file file path_room (omega arith) (omega arith), head_same n file (omega arith) (omega arith))
        (said_refused (head_checked file) (path_line_for (take n file)) (path_line_for file))
    go false e = rw (take_all n file (ltb-false n (length file) e))
