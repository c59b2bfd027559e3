-- Names of the desk cases, and where their searches begin. Assumes nothing.
use Rattle.std.specs.Prelude.{◌≡◌, refl, [], ◌∷◌}
use Rattle.layout.specs.Layout.{Bytes}
use Rattle.distinct.specs.Names.{raw_from, raw_name, name_at, names_at}
use Rattle.distinct.specs.Slots.{hashed, home}

-- T1, its first two lines: `A␉a:0.5␉b␊B`, names of attributes at 2 and 8
abbrev t1 : Bytes
t1 = 65 ∷ 9 ∷ 97 ∷ 58 ∷ 48 ∷ 46 ∷ 53 ∷ 9 ∷ 98 ∷ 10 ∷ 66 ∷ []

names : names_at t1 (2 ∷ 8 ∷ []) 2 ≡ (97 ∷ []) ∷ (98 ∷ []) ∷ []
unfolding names_at name_at raw_from
names = refl

-- T2, its attribute: `C\:\\x:1`. The colon behind a backslash is the name's own
escapes : raw_name (67 ∷ 92 ∷ 58 ∷ 92 ∷ 92 ∷ 120 ∷ 58 ∷ 49 ∷ []) ≡ 67 ∷ 92 ∷ 58 ∷ 92 ∷ 92 ∷ 120 ∷ []
unfolding raw_from
escapes = refl

-- `a` and `b` among 131,072 slots
homes : (home 131072 (97 ∷ []) ≡ 124426) × (home 131072 (98 ∷ []) ≡ 74361)
unfolding home hashed
homes = (refl, refl)
