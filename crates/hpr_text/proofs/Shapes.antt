-- A tree of a text is neither too deep nor too large, and has no wrong name.
use Rattle.std.proofs.Common.{◌≡◌, ℕ, ◌+◌, Bool, true, false, not, cond, nat_lt, List, [], ◌∷◌, ◌++◌, Option, Some, None, refl, ap, subst}
use Rattle.std.proofs.lemmas.Bool.{le-ltb}
use Rattle.std.specs.Option.{option_or, option_map}
use Rattle.std.specs.Str.{bytes_eq}
use Rattle.hpr_terms.specs.declared.limits.TheConstants.{MAX_LEVELS, MAX_OPERATORS, MAX_PARTS}
use Rattle.hpr_terms.specs.declared.tag.Tag.{Tag}
use Rattle.hpr_terms.specs.declared.expr.Expr.{Expr}
use Rattle.hpr_terms.specs.declared.token.Token.{Token}
use Rattle.hpr_terms.specs.declared.token.Token.TheVariants.{Name, Mark}
use Rattle.hpr_terms.specs.declared.token.Sign.TheVariants as sign
use Rattle.hpr_terms.specs.Names.{is_name, array_of, is_array}
use Rattle.hpr_terms.specs.Term.{Term, operators}
use Rattle.hpr_terms.specs.TermOf.{term_of}
use Rattle.hpr_terms.proofs.Facts.{some_inj, neither, in_here}
use Rattle.hpr_terms.proofs.Plain.{array_is}
use Rattle.hpr_syntax.specs.declared.shape.ShapeError.{ShapeError}
use Rattle.hpr_syntax.specs.declared.shape.ShapeError.TheVariants.{DuplicateTag, Unissued, TooDeep, ExprTooLarge, WrongName, TooManyParts, DuplicateFinal}
use Rattle.hpr_syntax.specs.Body.{Body, part_count}
use Rattle.hpr_syntax.specs.Parts.{tags_of}
use Rattle.hpr_syntax.specs.Tree.{Tree}
use Rattle.hpr_syntax.specs.Grammar as grammar
use Rattle.hpr_syntax.specs.Grammar.{Form, Rule, SpellsTerm, SpellsExpr, SpellsParts}
use Rattle.hpr_syntax.specs.Shape.{first_repeated_tag, first_unissued, first_deep, is_large, says_large, names_wrong, is_wrong, first_where, first_repeated, too_many, shape}
use Rattle.hpr_syntax.specs.Spelling.{Spells}
use Rattle.hpr_text.specs.Answers.{ComesFromText}
use Rattle.hpr_text.proofs.Named.{Named, named_rest, named_around, named_assignment, named_write, named_store, named_conditional, named_conditional_else, named_loop, text_named, parts_named}

-- ---- levels and operators

pub none_deep : {form : Form} {l n m : ℕ} {ts : List Token} {body : Body} → SpellsParts form l n m ts body → first_deep l body ≡ None
none_deep grammar.nothing = refl
none_deep (grammar.assignment label value rest) = none_deep rest
none_deep (grammar.write label value rest) = none_deep rest
none_deep (grammar.store x name label both rest) = none_deep rest
none_deep (grammar.conditional label test first rest) = rw (none_deep first) (none_deep rest)
none_deep (grammar.conditional_else label test first second rest) = rw (none_deep first, none_deep second) (none_deep rest)
none_deep (grammar.while_loop label test inner rest) = rw (none_deep inner) (none_deep rest)

not_large : (ts : List Token) (e : Expr) → SpellsExpr ts e → is_large e ≡ false
not_large ts e s = le-ltb MAX_OPERATORS (operators (term_of e)) s.1

pub none_large : {form : Form} {l n m : ℕ} {ts : List Token} {body : Body} → SpellsParts form l n m ts body → first_where says_large body ≡ None
none_large grammar.nothing = refl
none_large (grammar.assignment label value rest) = rw (not_large _ _ value) (none_large rest)
none_large (grammar.write label value rest) = rw (not_large _ _ value) (none_large rest)
none_large (grammar.store x {i = i} {e = e} name label both rest) = rw (le-ltb MAX_OPERATORS (operators (term_of i) + operators (term_of e)) both.2) (none_large rest)
none_large (grammar.conditional label test first rest) = rw (not_large _ _ test, none_large first) (none_large rest)
none_large (grammar.conditional_else label test first second rest) = rw (not_large _ _ test, none_large first, none_large second) (none_large rest)
none_large (grammar.while_loop label test inner rest) = rw (not_large _ _ test, none_large inner) (none_large rest)

-- ---- names

term_right : {r : Rule} {d : ℕ} {ts : List Token} {x : Term} → SpellsTerm r d ts x → Named ts → names_wrong x ≡ false
term_right (grammar.SpellsTerm.one on s) n = term_right s n
term_right (grammar.SpellsTerm.joined {a = a} {b = b} {t = t} {x = x} {y = y} on is s u) n =
    let two = named_around a t b n in neither (names_wrong x) (names_wrong y) (term_right s two.0) (term_right u two.1)
term_right (grammar.SpellsTerm.compared {a = a} {b = b} {t = t} {x = x} {y = y} is s u) n =
    let two = named_around a t b n in neither (names_wrong x) (names_wrong y) (term_right s two.0) (term_right u two.1)
term_right (grammar.SpellsTerm.signed {a = a} {t = t} is s) n = term_right s (named_rest t a n)
term_right (grammar.SpellsTerm.literal is) n = refl
term_right (grammar.SpellsTerm.name {x = x}) n = ap not (n x (in_here (Name x) []))
term_right (grammar.SpellsTerm.bracket {ts = ts} s) n =
    term_right s (named_around ts (Mark sign.Close) [] (named_rest (Mark sign.Open) (ts ++ (Mark sign.Close ∷ [])) n)).0
term_right (grammar.SpellsTerm.indexed {x = x} {ts = ts} {i = i} name s) n =
    let behind : List Token = ts ++ (Mark sign.CloseSquare ∷ []) in
    neither (not (is_array (array_of x))) (names_wrong i) (ap not (array_is x name))
    (term_right s (named_around ts (Mark sign.CloseSquare) [] (named_rest (Mark sign.OpenSquare) behind (named_rest (Name x) (Mark sign.OpenSquare ∷ behind) n))).0)

pub none_wrong : {form : Form} {l n m : ℕ} {ts : List Token} {body : Body} → SpellsParts form l n m ts body → Named ts → first_where is_wrong body ≡ None
none_wrong grammar.nothing names = refl
none_wrong (grammar.assignment {x = x} {label = label} {value = value} {more = more} is v s) names =
    let said = named_assignment label x value more names in
    let plain : is_name x ≡ true = said.0 in
    rw (plain, term_right v.0 said.1) (none_wrong s said.2)
none_wrong (grammar.write {label = label} {value = value} {more = more} is v s) names =
    let said = named_write label value more names in rw (term_right v.0 said.0) (none_wrong s said.1)
none_wrong (grammar.store x {label = label} {index = index} {value = value} {more = more} name is both s) names =
    let said = named_store label x index value more names in
    let array : is_array (array_of x) ≡ true = array_is x name in
    rw (array, term_right both.0 said.0, term_right both.1 said.1) (none_wrong s said.2)
none_wrong (grammar.conditional {label = label} {test = test} {first = first} {more = more} is v s u) names =
    let said = named_conditional label test first more names in
    rw (term_right v.0 said.0, none_wrong s said.1) (none_wrong u said.2)
none_wrong (grammar.conditional_else {label = label} {test = test} {first = first} {second = second} {more = more} is v s w u) names =
    let said = named_conditional_else label test first second more names in
    rw (term_right v.0 said.0, none_wrong s said.1, none_wrong w said.2) (none_wrong u said.3)
none_wrong (grammar.while_loop {label = label} {test = test} {inner = inner} {more = more} is v s u) names =
    let said = named_loop label test inner more names in
    rw (term_right v.0 said.0, none_wrong s said.1) (none_wrong u said.2)

-- ---- the refusals that are left

count_comes : (b : Bool) (n : ℕ) (names : Option (List ℕ)) (e : ShapeError) → option_or (cond b (Some (TooManyParts n)) None) (option_map DuplicateFinal names) ≡ Some e → ComesFromText e
count_comes true n names e h = subst ComesFromText (some_inj _ _ h) tt
count_comes false n None e h = absurd cc
count_comes false n (Some x) e h = subst ComesFromText (some_inj _ _ h) tt

-- the tests in their order, where three of them find nothing
first_comes : (repeated unissued deep large wrong : Option Tag) (n : ℕ) (names : Option (List ℕ)) (e : ShapeError) → deep ≡ None → large ≡ None → wrong ≡ None
    → option_or (option_map DuplicateTag repeated)
    (option_or (option_map Unissued unissued)
    (option_or (option_map TooDeep deep)
    (option_or (option_map ExprTooLarge large) (option_or (option_map WrongName wrong) (option_or (too_many n) (option_map DuplicateFinal names)))))) ≡ Some e
    → ComesFromText e
first_comes (Some t) unissued deep large wrong n names e p q r h = subst ComesFromText (some_inj _ _ h) tt
first_comes None (Some t) deep large wrong n names e p q r h = subst ComesFromText (some_inj _ _ h) tt
first_comes None None (Some t) large wrong n names e p q r h = absurd cc
first_comes None None None (Some t) wrong n names e p q r h = absurd cc
first_comes None None None None (Some t) n names e p q r h = absurd cc
first_comes None None None None None n names e p q r h = count_comes (nat_lt MAX_PARTS n) n names e h

pub comes_from_text : (form : Form) (bytes : List ℕ) (t : Tree) (e : ShapeError) → Spells form bytes t → shape t ≡ Some e → ComesFromText e
unfolding shape
comes_from_text form bytes t e s h =
    let p = s.program in
    first_comes (first_repeated_tag t.body) (first_unissued t.issued (tags_of t.body [])) (first_deep MAX_LEVELS t.body) (first_where says_large t.body) (first_where is_wrong t.body)
    (part_count t.body) (first_repeated bytes_eq [] t.finals) e (none_deep p.parts_are) (none_large p.parts_are) (none_wrong p.parts_are (parts_named p (text_named s.text))) h
