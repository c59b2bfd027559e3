-- A pass over the pieces of lines, whatever it makes: it follows the sequences, those that are done and the one that is open. Assumes nothing.
use mathlib.Core.Path.{◌≡◌, refl, ap, ◌∙◌}
use mathlib.Core.List.{List, [], ◌∷◌, ◌++◌, flatten, append_assoc, append-nil}
use Rattle.layout.specs.Layout.{Word, Line, empty, word, ended, sequences_from}
use Rattle.text_tables.specs.Pieces.{Piece, blank, line_pieces, pieces_of, after_each}
use Rattle.text_tables.proofs.Lists.{flatten_append, each_append}

-- the words of the sequences that are done, and of the open one
pub open_words : (ss : List (List Word)) (ws : List Word) → flatten (ss ++ ended ws) ≡ flatten ss ++ ws
unfolding flatten
open_words ss [] = flatten_append ss []
open_words ss (w ∷ ws) = flatten_append ss ((w ∷ ws) ∷ []) ∙ ap (λ (vs : List Word). flatten ss ++ vs) (append-nil (w ∷ ws))

module _ {S : Type 0} (step : S → Piece → S) (state : List (List Word) → List Word → S) where
  -- what it has when the lines are at their end
  pub record AtEnd (ss : List (List Word)) (result : S) : Type 0 where
    pub done : List (List Word)
    pub last : List Word
    pub is : result ≡ state done last
    pub all : done ++ ended last ≡ ss

  module _
      (at_blank : (ss : List (List Word)) (ws : List Word) → step (state ss ws) blank ≡ state (ss ++ ended ws) [])
      (at_word : (ss : List (List Word)) (ws : List Word) (w : Word) → after_each step (state ss ws) (line_pieces (word w)) ≡ state ss (ws ++ (w ∷ []))) where
    pub passed : (ss : List (List Word)) (ws : List Word) (ls : List Line) → AtEnd (ss ++ sequences_from ws ls) (after_each step (state ss ws) (pieces_of ls))
    unfolding after_each pieces_of sequences_from
    passed ss ws [] = record { done = ss; last = ws; is = refl; all = refl }
    passed ss ws (empty ∷ ls) =
        let r = passed (ss ++ ended ws) [] ls in
        record {
          done = r.done;
          last = r.last;
          is = ap (λ (s : S). after_each step s (pieces_of ls)) (at_blank ss ws) ∙ r.is;
          all = r.all ∙ append_assoc ss (ended ws) (sequences_from [] ls);
        }
    passed ss ws (word w ∷ ls) =
        let r = passed ss (ws ++ (w ∷ [])) ls in
        record {
          done = r.done;
          last = r.last;
          is = each_append step (state ss ws) (line_pieces (word w)) (pieces_of ls) ∙ ap (λ (s : S). after_each step s (pieces_of ls)) (at_word ss ws w) ∙ r.is;
          all = r.all;
        }
