-- The canonical text of a program spells it.
use Rattle.std.proofs.Common.{◌≡◌, ℕ, ◌+◌, ◌<◌, ◌≤◌, List, [], ◌∷◌, ◌++◌, Bool, true, false, nat_lt, ◌==◌, ◌||◌, map, codes, Option, Some, None, refl, ap, sym, ◌∙◌, subst, append_assoc, arith}
use Rattle.std.specs.Fmt.{decimal}
use Rattle.std.proofs.lemmas.Bool.{le-ltb, ne_eqb}
use Rattle.std.proofs.lemmas.Bool.Decides.{nat_tests}
use Rattle.std.proofs.lemmas.List.{append-nil}
use Rattle.std.proofs.lemmas.List.Elements.{recursion_from_All}
use Rattle.std.specs.List.{AllByRecursion}
use Rattle.hpr_terms.specs.declared.limits.TheConstants.{MAX_LEVELS}
use Rattle.hpr_terms.specs.declared.tag.Tag.{Tag}
use Rattle.hpr_terms.specs.declared.keyword.Keyword.TheVariants as keyword
use Rattle.hpr_terms.specs.declared.token.Sign.TheVariants as sign
use Rattle.hpr_terms.specs.declared.token.Token.{Token}
use Rattle.hpr_terms.specs.declared.token.Token.TheVariants.{Word, Name, Mark}
use Rattle.hpr_terms.specs.Names.{IsVariable, is_stream, is_array, base_of}
use Rattle.hpr_terms.specs.Tokens.{nothing, blanks, Text, ending}
use Rattle.hpr_terms.proofs.Facts.{if_none}
use Rattle.hpr_terms.proofs.Plain.{stream_is, plain_name, array_parts}
use Rattle.hpr_syntax.specs.Body.{Body}
use Rattle.hpr_syntax.specs.Parts.{tags_of}
use Rattle.hpr_syntax.specs.Issued.{Issued, AscendsFrom, IsIssued, raised, raised_by}
use Rattle.hpr_syntax.specs.Grammar as grammar
use Rattle.hpr_syntax.specs.Grammar.{tagged, pair_then, IsIssuedPair, SpellsPairs, SpellsHeader, SpellsFinal, SpellsNames, SpellsProgram, issued_of}
use Rattle.hpr_syntax.specs.Spelling.{Spells}
use Rattle.hpr_syntax.specs.Print.{pair_text, after_commas, joined, issued_text, text}
use Rattle.hpr_syntax.specs.Proper.{IsProperPair, IsProper}
use Rattle.hpr_syntax.specs.Shape.{is_unissued, first_unissued, is_wrong, first_where, IsProgram}
use Rattle.hpr_syntax.specs.Tree.{Tree}
use Rattle.hpr_syntax.proofs.NoRefusal.{HasNoRefusal, no_refusal}
use Rattle.hpr_syntax.proofs.Printed.{Printed, weaker, space, newline, mark, word, number, name}
use Rattle.hpr_syntax.proofs.ShownParts.{shown_body, has_serials, body_spelled}
use Rattle.hpr_syntax.proofs.PrintedParts.{body_is}

-- ---- the names of `end`

-- by whether the name is the stream's or an array's
abbrev final_by : Bool → Bool → List ℕ → List Token
final_by true array x = Word keyword.Out ∷ []
final_by false true x = Name (base_of x) ∷ Mark sign.OpenSquare ∷ Mark sign.CloseSquare ∷ []
final_by false false x = Name x ∷ []

abbrev final_tokens : List ℕ → List Token
final_tokens x = final_by (is_stream x) (is_array x) x

abbrev shown_after : List (List ℕ) → List Token
shown_after [] = []
shown_after (x ∷ xs) = Mark sign.Comma ∷ (final_tokens x ++ shown_after xs)

abbrev shown_names : List (List ℕ) → List Token
shown_names [] = []
shown_names (x ∷ xs) = final_tokens x ++ shown_after xs

final_spelled : (x : List ℕ) → SpellsFinal (final_tokens x) x
final_spelled x = go (is_stream x) (is_array x) refl refl
  where
    go : (b c : Bool) → is_stream x ≡ b → is_array x ≡ c → SpellsFinal (final_by b c x) x
    go true c e f = subst (SpellsFinal (Word keyword.Out ∷ [])) (sym (stream_is x e)) grammar.out
    go false true e f = subst (SpellsFinal (final_by false true x)) (sym (array_parts x f).0) (grammar.array (array_parts x f).1)
    go false false e f = grammar.plain

names_from : (x : List ℕ) (xs : List (List ℕ)) → SpellsNames (final_tokens x ++ shown_after xs) (x ∷ xs)
names_from x [] = subst (λ (ts : List Token). SpellsNames ts (x ∷ [])) (sym (append-nil (final_tokens x))) (grammar.SpellsNames.one (final_spelled x))
names_from x (y ∷ ys) = grammar.SpellsNames.more (final_spelled x) (names_from y ys)

names_spelled : (xs : List (List ℕ)) → SpellsNames (shown_names xs) xs
names_spelled [] = grammar.SpellsNames.none
names_spelled (x ∷ xs) = names_from x xs

brackets : Printed true false (codes "[]") (Mark sign.OpenSquare ∷ Mark sign.CloseSquare ∷ [])
brackets rest ts k = mark sign.OpenSquare _ _ (weaker (mark sign.CloseSquare rest ts k))

final_is : (x : List ℕ) → IsVariable x → Printed false true x (final_tokens x)
final_is x h = go (is_stream x) (is_array x) refl refl
  where
    go : (b c : Bool) → is_stream x ≡ b → is_array x ≡ c → Printed false true x (final_by b c x)
    go true c e f = subst (λ (y : List ℕ). Printed false true y (Word keyword.Out ∷ [])) (sym (stream_is x e)) (word keyword.Out)
    go false true e f =
        let parts = array_parts x f in
        let base : List ℕ = base_of x in
        let both : Printed false true (base ++ codes "[]") (final_by false true x) = λ rest ts k. simp append_assoc (name base parts.1 _ _ (brackets rest ts (weaker k))) in
        subst (λ (y : List ℕ). Printed false true y (final_by false true x)) (sym parts.0) both
    go false false e f = name x (plain_name x h e f)

after_is : (xs : List (List ℕ)) → AllByRecursion IsVariable xs → Printed true true (after_commas xs) (shown_after xs)
after_is [] h rest ts k = k
after_is (x ∷ xs) h rest ts k = simp append_assoc (mark sign.Comma _ _ (weaker (space _ _ (final_is x h.0 _ _ (after_is xs h.1 rest ts k)))))

names_are : (xs : List (List ℕ)) → AllByRecursion IsVariable xs → Printed false true (joined xs) (shown_names xs)
names_are [] h rest ts k = weaker k
names_are (x ∷ xs) h rest ts k = simp append_assoc (final_is x h.0 _ _ (after_is xs h.1 rest ts k))

-- ---- the header

abbrev shown_more : List (ℕ × ℕ) → List Token
shown_more [] = []
shown_more (p ∷ ps) = Mark sign.Comma ∷ pair_then p (shown_more ps)

abbrev shown_header : Issued → List Token
shown_header [] = []
shown_header (p ∷ ps) = Word keyword.Issued ∷ pair_then p (shown_more ps)

abbrev pairs_of : Issued → Option (List (ℕ × ℕ))
pairs_of [] = None
pairs_of (p ∷ ps) = Some (p ∷ ps)

are_pairs : (low : ℕ) (ps : Issued) → AscendsFrom low ps → AllByRecursion IsProperPair ps → AllByRecursion IsIssuedPair ps
are_pairs low [] h k = tt
are_pairs low (p ∷ ps) h k = ((k.0.0, (h.1, k.0.1)), are_pairs (p.0 + 1) ps h.2 k.1)

pairs_from : (p : ℕ × ℕ) (ps : Issued) → IsIssuedPair p → AllByRecursion IsIssuedPair ps → SpellsPairs (pair_then p (shown_more ps)) (p ∷ ps)
pairs_from p [] h k = grammar.SpellsPairs.one h
pairs_from p (q ∷ qs) h k = grammar.SpellsPairs.more h (pairs_from q qs k.0 k.1)

header_spelled : (ps : Issued) → AllByRecursion IsIssuedPair ps → SpellsHeader tagged (shown_header ps) (pairs_of ps)
header_spelled [] h = grammar.SpellsHeader.none
header_spelled (p ∷ ps) h = grammar.SpellsHeader.pairs (pairs_from p ps h.0 h.1)

pair_is : (p : ℕ × ℕ) (rest : List ℕ) (ts : List Token) → Text true rest ts → Text false (decimal p.0 ++ (codes ":" ++ (decimal p.1 ++ rest))) (pair_then p ts)
pair_is p rest ts h = number p.0 _ _ (mark sign.Colon _ _ (number p.1 rest ts h))

more_is : (ps : Issued) → Printed true true (after_commas (map pair_text ps)) (shown_more ps)
more_is [] rest ts k = k
more_is (p ∷ ps) rest ts k = simp append_assoc (mark sign.Comma _ _ (weaker (space _ _ (pair_is p _ _ (more_is ps rest ts k)))))

header_is : (ps : Issued) → Printed false false (issued_text ps) (shown_header ps)
header_is [] rest ts k = k
header_is (p ∷ ps) rest ts k = simp append_assoc (word keyword.Issued _ _ (space _ _ (pair_is p _ _ (more_is ps _ _ (newline rest ts k)))))

-- ---- issued numbers

abbrev AllBelow : ℕ → Issued → Type 0
AllBelow low ps = AllByRecursion (λ q. q.0 < low) ps

below_more : (low high : ℕ) (ps : Issued) → low ≤ high → AllBelow low ps → AllBelow high ps
below_more low high [] le h = tt
below_more low high (p ∷ ps) le h = (omega (arith, h.0, le), below_more low high ps le h.1)

below_then : (low : ℕ) (ps : Issued) (p : ℕ × ℕ) → AllBelow low ps → p.0 < low → AllBelow low (ps ++ (p ∷ []))
below_then low [] p h lt = (lt, tt)
below_then low (q ∷ qs) p h lt = (h.0, below_then low qs p h.1 lt)

raised_last : (low a n : ℕ) (ps : Issued) → low ≤ a → AllBelow low ps → raised a n ps ≡ ps ++ ((a, n) ∷ [])
raised_last low a n [] le h = refl
raised_last low a n (p ∷ ps) le h =
    let lt : p.0 < a = omega (arith, h.0, le) in
    rw (le-ltb a p.0 (omega (arith, lt)), ne_eqb p.0 a (λ e. omega (arith, lt, e))) (ap (λ r. p ∷ r) (raised_last low a n ps le h.1))

-- ascending pairs, one after the other
raised_ascending : (low : ℕ) (ps before : Issued) → AscendsFrom low ps → AllBelow low before → raised_by ps before ≡ before ++ ps
raised_ascending low [] before h k = sym (append-nil before)
raised_ascending low (p ∷ ps) before h k =
    let e : raised p.0 p.1 before ≡ before ++ (p ∷ []) = raised_last low p.0 p.1 before h.0 k in
    let below : AllBelow (p.0 + 1) before = below_more low (p.0 + 1) before (omega (arith, h.0)) k in
    let all : AllBelow (p.0 + 1) (before ++ (p ∷ [])) = below_then (p.0 + 1) before p below (omega arith) in
    ap (raised_by ps) e ∙ raised_ascending (p.0 + 1) ps (before ++ (p ∷ [])) h.2 all ∙ append_assoc before (p ∷ []) ps

unissued_if : (s : ℕ) → ((s == 0) || nat_lt 0 s) ≡ false → ⊥
unissued_if s h = grind (arith, nat_tests)

-- where no number is issued, there is no part
none_issued : (ts : List Tag) → first_unissued [] ts ≡ None → ts ≡ []
none_issued [] h = refl
none_issued (t ∷ ts) h = absurd (unissued_if t.serial (if_none (is_unissued [] t) t (first_unissued [] ts) h).0)

issued_whole : (issued : Issued) (body : Body) → IsIssued issued → first_unissued issued (tags_of body []) ≡ None → issued ≡ issued_of (pairs_of issued) body
issued_whole [] body h k = ap (λ ts. raised_by (map grammar.tag_pair ts) []) (sym (none_issued (tags_of body []) k))
issued_whole (p ∷ ps) body h k = sym (raised_ascending 0 (p ∷ ps) [] h tt)

-- ---- programs

abbrev shown_program : Tree → List Token
shown_program t =
    Word keyword.Program ∷ (shown_header t.issued ++ (shown_body t.body ++ (Word keyword.End ∷ Mark sign.Open ∷ (shown_names t.finals ++ (Mark sign.Close ∷ [])))))

text_is : (t : Tree) → IsProper t → first_where is_wrong t.body ≡ None → Text false (text t) (shown_program t)
unfolding text
text_is t h w =
    simp append_assoc
    (word keyword.Program _ _
    (newline _ _
    (header_is t.issued _ _
    (body_is 0 t.body w _ _
    (word keyword.End _ _
    (mark sign.Open _ _ (names_are t.finals (recursion_from_All IsVariable t.finals h.finals) _ _ (mark sign.Close _ _ (weaker (newline [] [] (ending (blanks nothing))))))))))))

program_spelled : (t : Tree) → IsProper t → HasNoRefusal t → SpellsProgram tagged (shown_program t) t
program_spelled t h s =
    let serials = has_serials t.issued t.body [] s.issued in
    let body = body_spelled MAX_LEVELS 0 t.body h.body serials.0 s.levels s.expressions s.variables in
    record {
      header = shown_header t.issued;
      pairs = pairs_of t.issued;
      parts = shown_body t.body;
      count = body.0;
      names = shown_names t.finals;
      header_is = header_spelled t.issued (are_pairs 0 t.issued h.ascending (recursion_from_All IsProperPair t.issued h.numbers));
      parts_are = body.1;
      names_are = names_spelled t.finals;
      issued_is = issued_whole t.issued t.body h.ascending s.issued;
      tokens_are = refl;
    }

pub text_spells : (t : Tree) → IsProgram t → Spells tagged (text t) t
text_spells t h =
    let none = no_refusal t h.shape in
    record { tokens = shown_program t; text = text_is t h.proper none.variables; program = program_spelled t h.proper none }
