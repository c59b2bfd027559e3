-- For callers, who know names as they are and not as they are escaped. Assumes nothing.
use mathlib.Core.Path.{◌≡◌, subst, ◌∙◌}
use mathlib.Core.List.{List, map}
use Prim.Native.Nat.{ℕ}
use lib.ListN.{length, length-map}
use Rattle.layout.specs.Layout.{Bytes, escaped}
use Rattle.text_tables.specs.Distinct.{id_in, learnt}
use Rattle.distinct.specs.Names.{Known, LearntLabel}
use Rattle.distinct.specs.Slots.{Filed, LearntName}
use Rattle.distinct.proofs.Escaped.{id_escaped, learnt_escaped}

pub record PlainLabel (text : Bytes) (known : List Bytes) (name : Bytes) (positions : List ℕ) (id : ℕ) : Type 0 where
  pub first : id ≡ id_in known name
  pub knows : Known text positions (length (learnt known name)) (map escaped (learnt known name))

pub record PlainName (text : Bytes) (known : List Bytes) (name : Bytes) (slots positions : List ℕ) (id : ℕ) : Type 0 where
  pub first : id ≡ id_in known name
  pub knows : Known text positions (length (learnt known name)) (map escaped (learnt known name))
  pub filed : Filed (length slots) (map escaped (learnt known name)) slots

knows_plain : (text : Bytes) (known : List Bytes) (name : Bytes) (positions : List ℕ) → Known text positions (length (learnt (map escaped known) (escaped name))) (learnt (map escaped known) (escaped name))
    → Known text positions (length (learnt known name)) (map escaped (learnt known name))
knows_plain text known name positions k =
    subst (λ (x : ℕ). Known text positions x (map escaped (learnt known name))) (length-map (learnt known name) escaped)
    (subst (λ (x : List Bytes). Known text positions (length x) x) (learnt_escaped known name) k)

pub plain_label : (text : Bytes) (known : List Bytes) (name raw : Bytes) (positions : List ℕ) (id : ℕ) → raw ≡ escaped name → LearntLabel text (map escaped known) raw positions id → PlainLabel text known name positions id
plain_label text known name raw positions id e l =
    let m = subst (λ (x : Bytes). LearntLabel text (map escaped known) x positions id) e l in
    record { first = m.first ∙ id_escaped known name; knows = knows_plain text known name positions m.knows }

pub plain_name : (text : Bytes) (known : List Bytes) (name raw : Bytes) (slots positions : List ℕ) (id : ℕ) → raw ≡ escaped name → LearntName text (map escaped known) raw slots positions id → PlainName text known name slots positions id
plain_name text known name raw slots positions id e l =
    let m = subst (λ (x : Bytes). LearntName text (map escaped known) x slots positions id) e l in
    record {
      first = m.first ∙ id_escaped known name;
      knows = knows_plain text known name positions m.knows;
      filed = subst (λ (x : List Bytes). Filed (length slots) x slots) (learnt_escaped known name) m.filed;
    }
