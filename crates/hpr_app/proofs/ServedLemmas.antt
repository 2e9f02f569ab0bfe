-- What is asked, where it is known: what a shelf serves of all its files it serves of each, and it is in range.
use Rattle.std.proofs.Common.{◌≡◌, ◌≤◌, ℕ, true, ltb, List, [], ◌∷◌, All, arith, get_or, length, map, subst}
use Rattle.std.proofs.lemmas.List.{length-map}
use Rattle.std.proofs.lemmas.List.Elements.{All-head, All-tail}
use borrow.Author.Tests.{ltb-true}
use Rattle.hpr_words.specs.Asked.{request}
use Rattle.hpr_words.specs.Request.{IsInRange, Text}
use Rattle.hpr_words.specs.declared.asked.Asked.{Asked}
use Rattle.hpr_decisions.specs.Reads.{files_of}

module _ (P : Text → Type 0) where
  each : (files : List Text) (k : ℕ) → ltb k (length files) ≡ true → All P files → P (get_or files k [])
  each files k low all = all k [] (ltb-true k (length files) low)

  pub served_at : (k : ℕ) (asked known : Asked) → asked ≡ known → ltb k (length (files_of (request known))) ≡ true → All P (files_of (request asked))
      → P (get_or (files_of (request known)) k [])
  served_at k asked known is low all = each (files_of (request known)) k low (subst (λ (a : Asked). All P (files_of (request a))) is all)

  module _ (asked known : Asked) (first : Text) (rest : List Text) (is : asked ≡ known) (named : files_of (request known) ≡ first ∷ rest) (all : All P (files_of (request asked))) where
    served_all : All P (first ∷ rest)
    served_all = subst (λ (names : List Text). All P names) named (subst (λ (a : Asked). All P (files_of (request a))) is all)

    pub served_first : P first
    served_first = All-head P first rest served_all

    pub served_behind : All P rest
    served_behind = All-tail P first rest served_all

pub ranged : (asked known : Asked) → asked ≡ known → IsInRange (request asked) → IsInRange (request known)
ranged asked known is range = subst (λ (a : Asked). IsInRange (request a)) is range

module _ {X Y : Type 0} (f : X → Y) (xs ys : List X) (same : ys ≡ xs) where
  pub least_of : 3 ≤ length (map f xs) → 2 ≤ length ys
  least_of least = rw same (omega (arith, least, length-map xs f))

  pub most_of : (most : ℕ) → length (map f xs) ≤ most → length ys ≤ most
  most_of most within = rw same (omega (arith, within, length-map xs f))
