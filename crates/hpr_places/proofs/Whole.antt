-- What the walk finds in the text of a program are the places of its parts.
use Rattle.std.proofs.Common.{◌≡◌, ℕ, ◌+◌, Option, List, [], ◌∷◌, ◌++◌, length, drop, true, false, codes, refl, sym, ap, subst, ◌∙◌}
use Rattle.std.specs.Str.{bytes_eq}
use Rattle.std.proofs.lemmas.List.{map-append}
use Rattle.hpr_terms.specs.declared.keyword.Keyword.TheVariants as keyword
use Rattle.hpr_terms.specs.declared.token.Sign.TheVariants as sign
use Rattle.hpr_terms.specs.declared.token.Token.{Token}
use Rattle.hpr_terms.specs.declared.token.Token.TheVariants.{Word, Mark}
use Rattle.hpr_terms.specs.Tokens.{Text}
use Rattle.hpr_syntax.specs.Grammar as grammar
use Rattle.hpr_syntax.specs.Grammar.{tagged, SpellsHeader, SpellsProgram}
use Rattle.hpr_syntax.specs.Shape.{IsProgram}
use Rattle.hpr_syntax.specs.Spelling.{Spells}
use Rattle.hpr_syntax.specs.Tree.{Tree}
use Rattle.hpr_places.specs.Places.{Located, tokens_of, parts_of, ArePlaces}
use Rattle.hpr_places.specs.Private.Walk.{closed, next_is, after_pair, if_type, PairsEnd, IsHeaderEnd, walk}
use Rattle.hpr_places.proofs.Content.{other_text}
use Rattle.hpr_places.proofs.Cut.{Cut, cut_none, cut_then, cut_to, cut_one, next_token, closed_is, word_is_next, located_tokens}
use Rattle.hpr_places.proofs.Found.{each_right, each_left}
use Rattle.hpr_places.proofs.Header.{Begins, parts_begin, cut_pairs}
use Rattle.hpr_places.proofs.Walks.{walks}

-- ---- the end of the header

no_header : (bytes : List ℕ) (m : ℕ) → next_is bytes (closed bytes 0) (codes "issued") ≡ false → IsHeaderEnd bytes m → closed bytes 0 ≡ m
unfolding IsHeaderEnd
no_header bytes m e h = sym (subst (λ b. if_type b (PairsEnd bytes (after_pair bytes (closed bytes (closed bytes 0))) m) (m ≡ closed bytes 0)) e h)

a_header : (bytes : List ℕ) (m : ℕ) → next_is bytes (closed bytes 0) (codes "issued") ≡ true → IsHeaderEnd bytes m → PairsEnd bytes (after_pair bytes (closed bytes (closed bytes 0))) m
unfolding IsHeaderEnd
a_header bytes m e h = subst (λ b. if_type b (PairsEnd bytes (after_pair bytes (closed bytes (closed bytes 0))) m) (m ≡ closed bytes 0)) e h

cut_header : (bytes : List ℕ) (m : ℕ) (header : List Token) (pairs : Option (List (ℕ × ℕ))) (us : List Token) → SpellsHeader tagged header pairs → Begins us → IsHeaderEnd bytes m
    → Text true (drop (closed bytes 0) bytes) (header ++ us) → Cut bytes true (closed bytes 0) header m us
unfolding cut_to cut_one
cut_header bytes m _ _ us grammar.none b h x =
    let n = closed bytes 0 in
    let y = next_token bytes true n b.first b.rest b.small (subst (Text true (drop n bytes)) b.is x) in
    let never = word_is_next bytes true n b.first b.rest y b.word b.small (codes "issued") ∙ other_text b.first keyword.Issued y.text y.is b.word b.small b.other in
    cut_to bytes true n n m [] [] us (cut_none bytes true n us x) refl (no_header bytes m never h)
cut_header bytes m _ _ us (grammar.pairs {ts = ts} {ps = ps} p) b h x =
    let n = closed bytes 0 in
    let t = Word keyword.Issued in
    let y = next_token bytes true n t (ts ++ us) tt x in
    let sure = word_is_next bytes true n t (ts ++ us) y refl tt (codes "issued") ∙ ap (λ v. bytes_eq v (codes "issued")) y.is in
    let e = closed_is bytes true n t (ts ++ us) y refl tt in
    let one = cut_to bytes true n (y.first + length y.text) (closed bytes n) (t ∷ []) (t ∷ []) (ts ++ us) (cut_one bytes true n t (ts ++ us) y) refl (sym e) in
    let r = cut_pairs bytes true (closed bytes n) m ts ps us p b (a_header bytes m sure h) one.more in
    cut_then bytes true n (closed bytes n) m (t ∷ []) ts us one r

-- ---- the whole text

end_begins : (us : List Token) → Begins (Word keyword.End ∷ us)
end_begins us = record { first = Word keyword.End; rest = us; is = refl; word = refl; small = tt; other = λ e. absurd cc }

pub are_places : (bytes : List ℕ) (tree : Tree) (m : ℕ) → Spells tagged bytes tree → IsProgram tree → IsHeaderEnd bytes m → ArePlaces bytes (walk bytes tree.body m).places
unfolding cut_to cut_one
are_places bytes tree m s proper h =
    let g = s.program in
    let t = Word keyword.Program in
    let tail = Word keyword.End ∷ Mark sign.Open ∷ (g.names ++ (Mark sign.Close ∷ [])) in
    let us = g.header ++ (g.parts ++ tail) in
    let x = subst (Text false (drop 0 bytes)) g.tokens_are s.text in
    let y = next_token bytes false 0 t us tt x in
    let e = closed_is bytes false 0 t us y refl tt in
    let one = cut_to bytes false 0 (y.first + length y.text) (closed bytes 0) (t ∷ []) (t ∷ []) us (cut_one bytes false 0 t us y) refl (sym e) in
    let front = cut_header bytes m g.header g.pairs (g.parts ++ tail) g.header_is (parts_begin _ _ _ g.parts tree.body tail g.parts_are (end_begins _)) h one.more in
    let f = walks _ _ _ g.parts tree.body g.parts_are bytes front.word m tail front.more in
    let z = located_tokens f.cut.more (walk bytes tree.body m).end in
    let all = one.all ++ (front.all ++ (f.cut.all ++ z.all)) in
    let are : tokens_of all ≡ t ∷ (g.header ++ (g.parts ++ tail)) =
    map-append (λ (l : Located). l.token) one.all (front.all ++ (f.cut.all ++ z.all))
    ∙ ap (λ ts. tokens_of one.all ++ ts) (map-append (λ (l : Located). l.token) front.all (f.cut.all ++ z.all))
    ∙ ap (λ ts. tokens_of one.all ++ (tokens_of front.all ++ ts)) (map-append (λ (l : Located). l.token) f.cut.all z.all)
    ∙ ap (λ ts. ts ++ (tokens_of front.all ++ (tokens_of f.cut.all ++ tokens_of z.all))) one.are
    ∙ ap (λ ts. t ∷ (ts ++ (tokens_of f.cut.all ++ tokens_of z.all))) front.are
    ∙ ap (λ ts. t ∷ (g.header ++ (ts ++ tokens_of z.all))) f.cut.are
    ∙ ap (λ ts. t ∷ (g.header ++ (g.parts ++ ts))) z.are in
    record {
      tree = tree;
      tokens = all;
      text = one.joins (front.all ++ (f.cut.all ++ z.all)) (front.joins (f.cut.all ++ z.all) (f.cut.joins z.all z.text));
      program = subst (λ ts. SpellsProgram tagged ts tree) (sym (are ∙ sym g.tokens_are)) g;
      shape = proper;
      parts = each_right one.all (front.all ++ (f.cut.all ++ z.all)) (parts_of tree.body) _ (each_right front.all (f.cut.all ++ z.all) (parts_of tree.body) _
          (each_left f.cut.all z.all (parts_of tree.body) _ f.stand));
    }
