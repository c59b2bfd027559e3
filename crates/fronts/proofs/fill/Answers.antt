-- `fronts::fill` meets its contract: each place passed has the value. Assumes nothing.
use Rattle.std.proofs.Common.{◌≡◌, ℕ, zero, suc, ◌<◌, List, [], ◌∷◌, ◌++◌, length, take, drop, set, replicate, refl, ap, add-one, not-suc-le-zero, le_of_suc-le-suc}
use Rattle.fronts.proofs.fill.Goals as goal

-- one place more
fill_more : {A : Type 0} (value : A) (i : ℕ) (table : List A) → i < length table → set (replicate i value ++ drop i table) i value ≡ replicate (suc i) value ++ drop (suc i) table
fill_more value i [] h = absurd (not-suc-le-zero h)
fill_more value zero (x ∷ table) h = refl
fill_more value (suc i) (x ∷ table) h = ap (λ (xs : List _). value ∷ xs) (fill_more value i table (le_of_suc-le-suc h))

pub loop-entry-preserved : goal.loop-entry-preserved
loop-entry-preserved g c =
    rw (c.loop-entry.invariant, add-one) (fill_more c.args.value c.loop-entry.entry-index (take c.args.n c.args.table.now) c.loop-entry-test.true)
