-- Document 02's layout on texts: every error with the byte that is charged, and what is no error, in one table. Assumes nothing.
use Rattle.std.specs.Prelude.{◌≡◌, refl, List, [], ◌∷◌, ◌++◌, map, ℕ, zero, suc, Ok, Err, Result}
use Rattle.layout.specs.Layout.{Bytes}
use Rattle.layout.specs.Scan.{class_of, look_from, look}

-- a text, and what a look through it finds
pub record Case : Type 0 where
  pub text : Bytes
  pub finds : Result (Unit {0}) ℕ

abbrev case : Bytes → Result (Unit {0}) ℕ → Case
case text finds = record { text = text; finds = finds }

-- so many times the same bytes
abbrev times : ℕ → Bytes → Bytes
times zero bytes = []
times (suc n) bytes = bytes ++ times n bytes

-- the table of point 14, `▸` being the byte charged; then T1 to T5 and the scales of point 9
abbrev pub cases : List Case
cases =
    -- "empty field"
    case (9 ∷ 65 ∷ []) (Err 0)
    ∷ case (65 ∷ 9 ∷ 9 ∷ 98 ∷ []) (Err 2)
    ∷ case (65 ∷ 9 ∷ 10 ∷ []) (Err 2)
    ∷ case (65 ∷ 9 ∷ []) (Err 2)
    -- "empty name"
    ∷ case (58 ∷ 49 ∷ []) (Err 0)
    ∷ case (65 ∷ 9 ∷ 58 ∷ 49 ∷ []) (Err 2)
    -- "bare colon in a label"
    ∷ case (65 ∷ 58 ∷ 120 ∷ []) (Err 1)
    -- "backslash before another character: that character"
    ∷ case (65 ∷ 92 ∷ 110 ∷ []) (Err 2)
    ∷ case (65 ∷ 9 ∷ 98 ∷ 92 ∷ 46 ∷ []) (Err 4)
    -- "backslash at the end of a field: what ends it"
    ∷ case (65 ∷ 92 ∷ 9 ∷ 98 ∷ []) (Err 2)
    ∷ case (65 ∷ 92 ∷ 10 ∷ []) (Err 2)
    ∷ case (65 ∷ 92 ∷ []) (Err 2)
    -- "empty scale: what ends it"
    ∷ case (65 ∷ 9 ∷ 98 ∷ 58 ∷ 9 ∷ []) (Err 4)
    ∷ case (65 ∷ 9 ∷ 98 ∷ 58 ∷ 10 ∷ []) (Err 4)
    ∷ case (65 ∷ 9 ∷ 98 ∷ 58 ∷ []) (Err 4)
    -- "no digit: what ends it"
    ∷ case (65 ∷ 9 ∷ 98 ∷ 58 ∷ 45 ∷ 10 ∷ []) (Err 5)
    ∷ case (65 ∷ 9 ∷ 98 ∷ 58 ∷ 46 ∷ 9 ∷ []) (Err 5)
    ∷ case (65 ∷ 9 ∷ 98 ∷ 58 ∷ 45 ∷ 46 ∷ []) (Err 6)
    -- "16th digit"
    ∷ case (65 ∷ 9 ∷ 98 ∷ 58 ∷ 48 ∷ 48 ∷ 48 ∷ 48 ∷ 48 ∷ 48 ∷ 48 ∷ 48 ∷ 48 ∷ 48 ∷ 48 ∷ 48 ∷ 48 ∷ 48 ∷ 48 ∷ 48 ∷ []) (Err 19)
    ∷ case (65 ∷ 9 ∷ 98 ∷ 58 ∷ 49 ∷ 46 ∷ 50 ∷ 51 ∷ 52 ∷ 53 ∷ 54 ∷ 55 ∷ 56 ∷ 57 ∷ 48 ∷ 49 ∷ 50 ∷ 51 ∷ 52 ∷ 53 ∷ 54 ∷ []) (Err 20)
    -- "second point, late minus, another byte"
    ∷ case (65 ∷ 9 ∷ 98 ∷ 58 ∷ 49 ∷ 46 ∷ 50 ∷ 46 ∷ []) (Err 7)
    ∷ case (65 ∷ 9 ∷ 98 ∷ 58 ∷ 49 ∷ 45 ∷ []) (Err 5)
    ∷ case (65 ∷ 9 ∷ 98 ∷ 58 ∷ 43 ∷ 49 ∷ []) (Err 4)
    ∷ case (65 ∷ 9 ∷ 98 ∷ 58 ∷ 49 ∷ 101 ∷ 53 ∷ []) (Err 5)
    ∷ case (65 ∷ 9 ∷ 98 ∷ 58 ∷ 49 ∷ 58 ∷ 50 ∷ []) (Err 5)
    ∷ case (65 ∷ 9 ∷ 98 ∷ 58 ∷ 49 ∷ 92 ∷ []) (Err 5)
    ∷ case (65 ∷ 9 ∷ 98 ∷ 58 ∷ 49 ∷ 13 ∷ []) (Err 5)
    -- T3
    ∷ case (9 ∷ []) (Err 0)
    ∷ case [] (Ok tt)
    ∷ case (10 ∷ 10 ∷ []) (Ok tt)
    ∷ case (65 ∷ []) (Ok tt)
    -- T4
    ∷ case (times 128 (65 ∷ 10 ∷ []) ++ (10 ∷ times 129 (65 ∷ 10 ∷ [])) ++ (65 ∷ 58 ∷ [])) (Err 516)
    -- T5
    ∷ case (76 ∷ 48 ∷ 10 ∷ 76 ∷ 49 ∷ 10 ∷ 76 ∷ 50 ∷ 10 ∷ 76 ∷ 51 ∷ 10 ∷ 76 ∷ 52 ∷ 10 ∷ 76 ∷ 53 ∷ 10 ∷ 76 ∷ 54 ∷ 10 ∷ 76 ∷ 55 ∷ 10 ∷ 76 ∷ 56 ∷ 10 ∷ 76 ∷ 57 ∷ 10 ∷ 76 ∷ 49 ∷ 48 ∷ 10 ∷ 76 ∷ 49 ∷ 49 ∷ 10 ∷ 76 ∷ 49 ∷ 50 ∷ 10 ∷ 76 ∷ 49 ∷ 51 ∷ 10 ∷ 76 ∷ 49 ∷ 52 ∷ 10 ∷ 76 ∷ 49 ∷ 53 ∷ 10 ∷ 76 ∷ 49 ∷ 54 ∷ 10 ∷ 76 ∷ 49 ∷ 55 ∷ 10 ∷ 76 ∷ 49 ∷ 56 ∷ 10 ∷ 76 ∷ 49 ∷ 57 ∷ 10 ∷ 76 ∷ 50 ∷ 48 ∷ 10 ∷ 76 ∷ 50 ∷ 49 ∷ 10 ∷ 76 ∷ 50 ∷ 50 ∷ 10 ∷ 76 ∷ 50 ∷ 51 ∷ 10 ∷ 76 ∷ 50 ∷ 52 ∷ 10 ∷ 76 ∷ 50 ∷ 53 ∷ 10 ∷ 76 ∷ 50 ∷ 54 ∷ 10 ∷ 76 ∷ 50 ∷ 55 ∷ 10 ∷ 76 ∷ 50 ∷ 56 ∷ 10 ∷ 76 ∷ 50 ∷ 57 ∷ 10 ∷ 76 ∷ 51 ∷ 48 ∷ 10 ∷ 76 ∷ 51 ∷ 49 ∷ 10 ∷ 76 ∷ 51 ∷ 50 ∷ 10 ∷ 92 ∷ []) (Err 123)
    -- T1
    ∷ case (65 ∷ 9 ∷ 97 ∷ 58 ∷ 48 ∷ 46 ∷ 53 ∷ 9 ∷ 98 ∷ 10 ∷ 66 ∷ 10 ∷ 10 ∷ 10 ∷ 65 ∷ 9 ∷ 98 ∷ 58 ∷ 45 ∷ 48 ∷ 10 ∷ []) (Ok tt)
    -- T2
    ∷ case (104 ∷ 92 ∷ 58 ∷ 109 ∷ 9 ∷ 67 ∷ 92 ∷ 58 ∷ 92 ∷ 92 ∷ 120 ∷ 58 ∷ 49 ∷ []) (Ok tt)
    -- scales of point 9
    ∷ case (65 ∷ 9 ∷ 98 ∷ 58 ∷ 53 ∷ []) (Ok tt)
    ∷ case (65 ∷ 9 ∷ 98 ∷ 58 ∷ 45 ∷ 53 ∷ []) (Ok tt)
    ∷ case (65 ∷ 9 ∷ 98 ∷ 58 ∷ 49 ∷ 46 ∷ []) (Ok tt)
    ∷ case (65 ∷ 9 ∷ 98 ∷ 58 ∷ 46 ∷ 53 ∷ []) (Ok tt)
    ∷ case (65 ∷ 9 ∷ 98 ∷ 58 ∷ 45 ∷ 46 ∷ 53 ∷ []) (Ok tt)
    ∷ case (65 ∷ 9 ∷ 98 ∷ 58 ∷ 45 ∷ 53 ∷ 46 ∷ []) (Ok tt)
    ∷ case (65 ∷ 9 ∷ 98 ∷ 58 ∷ 48 ∷ 48 ∷ 55 ∷ []) (Ok tt)
    ∷ case (65 ∷ 9 ∷ 98 ∷ 58 ∷ 48 ∷ 48 ∷ 48 ∷ 48 ∷ 48 ∷ 48 ∷ 48 ∷ 48 ∷ 48 ∷ 48 ∷ 48 ∷ 48 ∷ 48 ∷ 48 ∷ 48 ∷ []) (Ok tt)
    ∷ case (65 ∷ 9 ∷ 98 ∷ 58 ∷ 49 ∷ 50 ∷ 51 ∷ 52 ∷ 53 ∷ 54 ∷ 55 ∷ 56 ∷ 57 ∷ 48 ∷ 49 ∷ 50 ∷ 51 ∷ 52 ∷ 53 ∷ 46 ∷ []) (Ok tt)
    ∷ case (65 ∷ 9 ∷ 98 ∷ 58 ∷ 45 ∷ 46 ∷ 48 ∷ []) (Ok tt)
    ∷ []

-- a look through each text finds what stands beside it
abbrev pub AllFound : Type 0
AllFound = map (λ (c : Case). look c.text) cases ≡ map (λ (c : Case). c.finds) cases

all_found : AllFound
unfolding look look_from class_of
all_found = refl
