-- What is built of the pieces of lines is the tables of their sequences, and each list is as long as the tally says. Assumes nothing.
use mathlib.Core.Path.{◌≡◌, refl, sym, ap, subst, ◌∙◌}
use mathlib.Core.Bool.{Bool, true, false, cond}
use mathlib.Core.List.{List, [], ◌∷◌, ◌++◌, map, flatten, append_assoc, append-nil}
use Prim.Native.Nat.{ℕ, ◌+◌}
use native.Mathlib.Nat.{zero-add}
use lib.ListN.{length, length-append, length-map}
use Rattle.layout.specs.Layout.{Bytes, TextAttribute, Word, Line, word, ended, sequences}
use Rattle.scales.specs.Value.{value_of}
use Rattle.text_tables.specs.Distinct.{id_in, distinct}
use Rattle.text_tables.specs.Tables.{starts_from, all_words, all_attributes, labels_of, names_of, scales_of, tables}
use Rattle.text_tables.specs.Pieces.{blank, label, attribute, line_pieces, pieces_of, after_each}
use Rattle.text_tables.specs.Built.{Built, built_on, built_of, Builds, BuiltMeans}
use Rattle.text_tables.specs.Written.{in_all}
use Rattle.text_tables.proofs.Lists.{map_append, length_flatten, begins_from, starts_begins, begins_append, begins_more, flat_starts}
use Rattle.text_tables.proofs.Passed.{open_words, AtEnd, passed}
use Rattle.text_tables.proofs.Tallied.{attributes_more, scales_more}

abbrev attribute_count : Word → ℕ
attribute_count w = length w.attributes

abbrev word_count : List Word → ℕ
word_count s = length s

abbrev some_open : List Word → Bool
some_open [] = false
some_open (w ∷ ws) = true

module _ (labels names : List Bytes) where
  -- ---- the pass: sequences that are done, and one that is open
  abbrev lists_of : List (List Word) → Bool → List Word → Built
  lists_of ss within vs = record {
    line_starts = begins_from 0 (map word_count ss);
    word_starts_of = begins_from 0 (map attribute_count vs);
    references = map (id_in labels) (labels_of vs);
    ids = map (id_in names) (names_of (all_attributes vs));
    values = map value_of (scales_of (all_attributes vs));
    scale_starts_of = begins_from 0 (map length (scales_of (all_attributes vs)));
    scales = flatten (scales_of (all_attributes vs));
    within = within;
  }

  abbrev built : List (List Word) → List Word → Built
  built ss ws = lists_of (ss ++ ended ws) (some_open ws) (flatten ss ++ ws)

  at_blank : (ss : List (List Word)) (ws : List Word) → built_on labels names (built ss ws) blank ≡ built (ss ++ ended ws) []
  at_blank ss ws =
      ap (λ (rs : List (List Word)). lists_of rs false (flatten ss ++ ws)) (sym (append-nil (ss ++ ended ws)))
      ∙ ap (lists_of (ss ++ ended ws ++ []) false) (sym (open_words ss ws) ∙ sym (append-nil (flatten (ss ++ ended ws))))

  -- attributes one after the other
  abbrev with_attributes : Built → List TextAttribute → Built
  with_attributes b xs = record {
    line_starts = b.line_starts;
    word_starts_of = b.word_starts_of;
    references = b.references;
    ids = b.ids ++ map (id_in names) (names_of xs);
    values = b.values ++ map value_of (scales_of xs);
    scale_starts_of = b.scale_starts_of ++ begins_from (length b.scales) (map length (scales_of xs));
    scales = b.scales ++ flatten (scales_of xs);
    within = b.within;
  }

  built_attributes : (b : Built) (xs : List TextAttribute) → after_each (built_on labels names) b (map attribute xs) ≡ with_attributes b xs
  unfolding after_each flatten begins_from
  built_attributes b [] = λ i. record {
    line_starts = b.line_starts;
    word_starts_of = b.word_starts_of;
    references = b.references;
    ids = sym (append-nil b.ids) i;
    values = sym (append-nil b.values) i;
    scale_starts_of = sym (append-nil b.scale_starts_of) i;
    scales = sym (append-nil b.scales) i;
    within = b.within;
  }
  built_attributes b (x ∷ xs) =
      let starts : (b.scale_starts_of ++ (length b.scales ∷ [])) ++ begins_from (length (b.scales ++ x.scale)) (map length (scales_of xs)) ≡ b.scale_starts_of ++ (length b.scales ∷ begins_from (length b.scales + length x.scale) (map length (scales_of xs))) =
      append_assoc b.scale_starts_of (length b.scales ∷ []) (begins_from (length (b.scales ++ x.scale)) (map length (scales_of xs)))
      ∙ ap (λ (k : ℕ). b.scale_starts_of ++ (length b.scales ∷ begins_from k (map length (scales_of xs)))) (length-append b.scales x.scale) in
      built_attributes (built_on labels names b (attribute x)) xs
      ∙ (λ i. record {
        line_starts = b.line_starts;
        word_starts_of = b.word_starts_of;
        references = b.references;
        ids = append_assoc b.ids (id_in names x.name ∷ []) (map (id_in names) (names_of xs)) i;
        values = append_assoc b.values (value_of x.scale ∷ []) (map value_of (scales_of xs)) i;
        scale_starts_of = starts i;
        scales = append_assoc b.scales x.scale (flatten (scales_of xs)) i;
        within = b.within;
      })

  -- a word begins
  line_begun : (ss : List (List Word)) (ws : List Word) (w : Word)
      → cond (some_open ws) (begins_from 0 (map word_count (ss ++ ended ws))) (begins_from 0 (map word_count (ss ++ ended ws)) ++ (length (map (id_in labels) (labels_of (flatten ss ++ ws))) ∷ []))
      ≡ begins_from 0 (map word_count (ss ++ ended (ws ++ (w ∷ []))))
  line_begun ss [] w =
      let count : length (map (id_in labels) (labels_of (flatten ss ++ []))) ≡ in_all (map word_count ss) =
      length-map (labels_of (flatten ss ++ [])) (id_in labels) ∙ length-map (flatten ss ++ []) (λ (v : Word). v.label) ∙ ap length (append-nil (flatten ss)) ∙ length_flatten ss in
      ap (λ (rs : List (List Word)). begins_from 0 (map word_count rs) ++ (length (map (id_in labels) (labels_of (flatten ss ++ []))) ∷ [])) (append-nil ss)
      ∙ ap (λ (k : ℕ). begins_from 0 (map word_count ss) ++ (k ∷ [])) count
      ∙ sym (begins_more (map word_count ss) 1)
      ∙ ap (begins_from 0) (sym (map_append word_count ss ((w ∷ []) ∷ [])))
  line_begun ss (v ∷ ws) w =
      ap (begins_from 0) (map_append word_count ss ((v ∷ ws) ∷ []))
      ∙ begins_more (map word_count ss) (length (v ∷ ws))
      ∙ sym (begins_more (map word_count ss) (length (v ∷ (ws ++ (w ∷ [])))))
      ∙ ap (begins_from 0) (sym (map_append word_count ss ((v ∷ (ws ++ (w ∷ []))) ∷ [])))

  count_attributes : (vs : List Word) → length (map (id_in names) (names_of (all_attributes vs))) ≡ in_all (map attribute_count vs)
  count_attributes vs =
      length-map (names_of (all_attributes vs)) (id_in names) ∙ length-map (all_attributes vs) (λ (x : TextAttribute). x.name) ∙ length_flatten (map (λ (v : Word). v.attributes) vs) ∙ ap in_all (counts vs)
    where
      counts : (vs : List Word) → map length (map (λ (v : Word). v.attributes) vs) ≡ map attribute_count vs
      counts [] = refl
      counts (v ∷ vs) = ap (λ (ks : List ℕ). attribute_count v ∷ ks) (counts vs)

  at_word : (ss : List (List Word)) (ws : List Word) (w : Word) → after_each (built_on labels names) (built ss ws) (line_pieces (word w)) ≡ built ss (ws ++ (w ∷ []))
  unfolding after_each
  at_word ss ws w =
      let vs : List Word = flatten ss ++ ws in
      let old : List TextAttribute = all_attributes vs in
      let new : List TextAttribute = w.attributes in
      let b : Built = built_on labels names (built ss ws) (label w.label) in
      let starts : begins_from 0 (map attribute_count vs) ++ (length (map (id_in names) (names_of old)) ∷ []) ≡ begins_from 0 (map attribute_count (vs ++ (w ∷ []))) =
      ap (λ (k : ℕ). begins_from 0 (map attribute_count vs) ++ (k ∷ [])) (count_attributes vs)
      ∙ sym (begins_more (map attribute_count vs) (attribute_count w))
      ∙ ap (begins_from 0) (sym (map_append attribute_count vs (w ∷ []))) in
      let refs : map (id_in labels) (labels_of vs) ++ (id_in labels w.label ∷ []) ≡ map (id_in labels) (labels_of (vs ++ (w ∷ []))) =
      sym (map_append (id_in labels) (labels_of vs) (w.label ∷ [])) ∙ ap (map (id_in labels)) (sym (map_append (λ (v : Word). v.label) vs (w ∷ []))) in
      let ids : map (id_in names) (names_of old) ++ map (id_in names) (names_of new) ≡ map (id_in names) (names_of (all_attributes (vs ++ (w ∷ [])))) =
      sym (map_append (id_in names) (names_of old) (names_of new))
      ∙ ap (map (id_in names)) (sym (map_append (λ (x : TextAttribute). x.name) old new))
      ∙ ap (λ (xs : List TextAttribute). map (id_in names) (names_of xs)) (sym (attributes_more vs w)) in
      let values : map value_of (scales_of old) ++ map value_of (scales_of new) ≡ map value_of (scales_of (all_attributes (vs ++ (w ∷ [])))) =
      sym (map_append value_of (scales_of old) (scales_of new))
      ∙ ap (map value_of) (sym (map_append (λ (x : TextAttribute). x.scale) old new))
      ∙ ap (λ (xs : List TextAttribute). map value_of (scales_of xs)) (sym (attributes_more vs w)) in
      let kept : begins_from 0 (map length (scales_of old)) ++ begins_from (length (flatten (scales_of old))) (map length (scales_of new)) ≡ begins_from 0 (map length (scales_of (all_attributes (vs ++ (w ∷ []))))) =
      ap (λ (k : ℕ). begins_from 0 (map length (scales_of old)) ++ begins_from k (map length (scales_of new))) (length_flatten (scales_of old) ∙ sym (zero-add (in_all (map length (scales_of old)))))
      ∙ sym (begins_append 0 (map length (scales_of old)) (map length (scales_of new)))
      ∙ ap (begins_from 0) (sym (map_append length (scales_of old) (scales_of new)) ∙ ap (map length) (sym (map_append (λ (x : TextAttribute). x.scale) old new)))
      ∙ ap (λ (xs : List TextAttribute). begins_from 0 (map length (scales_of xs))) (sym (attributes_more vs w)) in
      built_attributes b new
      ∙ (λ i. record {
        line_starts = line_begun ss ws w i;
        word_starts_of = starts i;
        references = refs i;
        ids = ids i;
        values = values i;
        scale_starts_of = kept i;
        scales = sym (scales_more vs w) i;
        within = some ws i;
      })
      ∙ ap (lists_of (ss ++ ended (ws ++ (w ∷ []))) (some_open (ws ++ (w ∷ [])))) (append_assoc (flatten ss) ws (w ∷ []))
    where
      some : (ws : List Word) → true ≡ some_open (ws ++ (w ∷ []))
      some [] = refl
      some (v ∷ ws) = refl

  built_end : (ls : List Line) → AtEnd (built_on labels names) built (sequences ls) (built_of labels names (pieces_of ls))
  unfolding flatten begins_from
  built_end ls = passed (built_on labels names) built at_blank at_word [] [] ls

  built_is : (ls : List Line) → (within : Bool) × (built_of labels names (pieces_of ls) ≡ lists_of (sequences ls) within (all_words (sequences ls)))
  built_is ls =
      let r = built_end ls in (
        some_open r.last,
        r.is ∙ ap (lists_of (r.done ++ ended r.last) (some_open r.last)) (sym (open_words r.done r.last))
            ∙ ap (λ (ss : List (List Word)). lists_of ss (some_open r.last) (flatten ss)) r.all,
      )

  starts_with_last : (ns : List ℕ) (k : ℕ) → k ≡ in_all ns → begins_from 0 ns ++ (k ∷ []) ≡ starts_from 0 ns
  starts_with_last ns k e = ap (λ (j : ℕ). begins_from 0 ns ++ (j ∷ [])) (e ∙ sym (zero-add (in_all ns))) ∙ sym (starts_begins 0 ns)

  line_starts_lem : (ss : List (List Word)) → begins_from 0 (map word_count ss) ++ (length (map (id_in labels) (labels_of (flatten ss))) ∷ []) ≡ starts_from 0 (map word_count ss)
  line_starts_lem ss =
      starts_with_last (map word_count ss) (length (map (id_in labels) (labels_of (flatten ss))))
      (length-map (labels_of (flatten ss)) (id_in labels) ∙ length-map (flatten ss) (λ (v : Word). v.label) ∙ length_flatten ss)

  word_starts : (vs : List Word) → begins_from 0 (map attribute_count vs) ++ (length (map (id_in names) (names_of (all_attributes vs))) ∷ []) ≡ starts_from 0 (map attribute_count vs)
  word_starts vs = starts_with_last (map attribute_count vs) (length (map (id_in names) (names_of (all_attributes vs)))) (count_attributes vs)

pub built_means : BuiltMeans
unfolding tables
built_means ls =
    let ss : List (List Word) = sequences ls in
    let vs : List Word = flatten ss in
    let labels : List Bytes = distinct (labels_of vs) in
    let names : List Bytes = distinct (names_of (all_attributes vs)) in
    let r = built_is labels names ls in
    let done : Builds ss (lists_of labels names ss r.0 vs) = record {
      line_starts = line_starts_lem labels names ss;
      word_starts_of = word_starts labels names vs;
      references = refl;
      ids = refl;
      values = refl;
      scale_starts_of = sym (flat_starts (scales_of (all_attributes vs)));
      scales = refl;
    } in
    subst (Builds ss) (sym r.1) done
