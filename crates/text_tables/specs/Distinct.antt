-- "Names get ids by first appearance". What that means is proved in proofs/Appearance. Assumes nothing.
use Rattle.std.specs.Prelude.{◌≡◌, Bool, true, false, cond, ◌&&◌, List, [], ◌∷◌, ◌++◌, ℕ, suc, ◌<◌, eqb, ltb, length, get_or}
use Rattle.layout.specs.Layout.{Bytes}

-- the same bytes
unfoldable pub same : Bytes → Bytes → Bool
same [] [] = true
same [] (b ∷ n) = false
same (a ∷ m) [] = false
same (a ∷ m) (b ∷ n) = eqb a b && same m n

-- the id of a name: its index among the names known; how many are known, where it is none of them
unfoldable pub id_in : List Bytes → Bytes → ℕ
id_in [] n = 0
id_in (m ∷ known) n = cond (same m n) 0 (suc (id_in known n))

-- the names known after one more
unfoldable pub learnt : List Bytes → Bytes → List Bytes
learnt known n = cond (ltb (id_in known n) (length known)) known (known ++ (n ∷ []))

-- and after several
unfoldable pub learnt_all : List Bytes → List Bytes → List Bytes
learnt_all known [] = known
learnt_all known (n ∷ ns) = learnt_all (learnt known n) ns

-- the distinct ones of some names, by first appearance
abbrev pub distinct : List Bytes → List Bytes
distinct ns = learnt_all [] ns

-- ---- what ids mean, in plain terms

-- every name has an id, which leads back to it; every id is that of its name; and where the name of an id first stands, all names before it have smaller ids
pub record FirstAppearance (ns known : List Bytes) : Type 0 where
  pub all_known : (i : ℕ) → i < length ns → id_in known (get_or ns i []) < length known
  pub leads_back : (i : ℕ) → i < length ns → get_or known (id_in known (get_or ns i [])) [] ≡ get_or ns i []
  pub none_twice : (k : ℕ) → k < length known → id_in known (get_or known k []) ≡ k
  pub in_order : (k : ℕ) → k < length known → (p : ℕ) × (p < length ns) × (get_or ns p [] ≡ get_or known k []) × ((q : ℕ) → q < p → id_in known (get_or ns q []) < k)

-- "Names get ids by first appearance"
abbrev pub IdsByFirstAppearance : Type 0
IdsByFirstAppearance = (ns : List Bytes) → FirstAppearance ns (distinct ns)
