-- Decided points and rows of document 01, computed. Assumes nothing.
use Rattle.std.specs.Prelude.{◌≡◌, refl, false, true, [], ◌∷◌, pos, Ok}
use Rattle.std.specs.Float.{nan, inf, fin}
use Rattle.refusals.specs.Refusals.{refused_at, refuse, or_next_of, sooner, lowest, first}
use Rattle.refusals.specs.Tables.{outside, starts_checked, kinds_checked, ids_checked, sources_checked, numbers_checked}

-- "A start above the count is not bad by itself: 0, 9, 9 over 3 entries is place 2"
above_the_count : starts_checked (0 ∷ 9 ∷ 9 ∷ []) 2 3 ≡ refused_at 3 2
unfolding lowest or_next_of refuse
above_the_count = refl

-- "index 0 where the first is not 0"
not_from_zero : starts_checked (1 ∷ 0 ∷ 3 ∷ []) 2 3 ≡ refused_at 3 0
unfolding lowest or_next_of refuse
not_from_zero = refl

-- "index i where start i is below start i−1"
falling : starts_checked (0 ∷ 2 ∷ 1 ∷ 3 ∷ []) 3 3 ≡ refused_at 3 2
unfolding lowest or_next_of refuse
falling = refl

-- "with no lists that is one start, which has to be 0 and equal to the entry count"
no_lists : starts_checked (0 ∷ []) 0 0 ≡ Ok tt
unfolding lowest or_next_of refuse
no_lists = refl

no_lists_but_entries : starts_checked (0 ∷ []) 0 4 ≡ refused_at 3 0
unfolding lowest or_next_of refuse
no_lists_but_entries = refl

-- "table by table": a bad kind at feature 2 beats a bad destination at feature 0
table_by_table : first (kinds_checked (0 ∷ 1 ∷ 2 ∷ []) 3 ∷ ids_checked (9 ∷ 0 ∷ 0 ∷ []) 3 2 ∷ []) ≡ refused_at 5 2
unfolding lowest or_next_of refuse
table_by_table = refl

-- "at or above": the bound itself is bad
at_the_bound : ids_checked (1 ∷ 2 ∷ 3 ∷ []) 3 2 ≡ refused_at 5 1
unfolding lowest or_next_of refuse
at_the_bound = refl

-- "a State feature's source is not read and may be anything"; a Transition's is read
state_source : sources_checked (0 ∷ 1 ∷ 1 ∷ []) (77 ∷ 1 ∷ 2 ∷ []) 3 2 ≡ refused_at 5 2
unfolding lowest or_next_of refuse
state_source = refl

-- "its tail is neither read nor tested"
tail : ids_checked (0 ∷ 1 ∷ 99 ∷ []) 2 2 ≡ Ok tt
unfolding lowest or_next_of refuse
tail = refl

-- "not finite": an infinity of either sign and a NaN; −0 is finite
not_finite : (numbers_checked (fin true 0 (pos 0) ∷ inf false ∷ []) 2 ≡ refused_at 6 1) × (numbers_checked (inf true ∷ []) 1 ≡ refused_at 6 0) × (numbers_checked (nan ∷ []) 1 ≡ refused_at 6 0)
unfolding lowest or_next_of refuse
not_finite = (refl, refl, refl)

-- "The lowest number wins" by the order of the checks: a bad L hides every table
lowest_number : first (refuse 1 0 (outside 1 32 33) ∷ starts_checked (1 ∷ []) 0 0 ∷ []) ≡ refused_at 1 0
unfolding lowest or_next_of refuse
lowest_number = refl

-- "The lowest number wins" of two checks, whichever was made first; of equal numbers the first
lower_first : (sooner (refused_at 6 0) (refused_at 3 2) ≡ refused_at 3 2) × (sooner (refused_at 5 1) (refused_at 5 0) ≡ refused_at 5 1) × (sooner (Ok tt) (refused_at 6 0) ≡ refused_at 6 0)
unfolding sooner
lower_first = (refl, refl, refl)
