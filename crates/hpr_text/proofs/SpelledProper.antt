-- The names and the numbers of a tree that a text spells are proper.
use Rattle.std.proofs.Common.{ℕ, ◌<◌, ◌≤◌, ◌^◌, ◌==◌, max, nat_lt, Bool, true, false, if◌then◌else◌, All, Option, List, [], ◌∷◌, ◌++◌, map, sym, subst, arith, ◌≡◌, None}
use Rattle.std.specs.List.{AllByRecursion}
use Rattle.std.proofs.lemmas.List.Elements.{All-from_recursion}
use Rattle.hpr_terms.specs.declared.tag.Tag.{Tag}
use Rattle.hpr_terms.specs.declared.token.Sign.TheVariants as sign
use Rattle.hpr_terms.specs.declared.token.Token.{Token}
use Rattle.hpr_terms.specs.declared.token.Token.TheVariants.{Name, Mark}
use Rattle.hpr_terms.specs.Names.{IsVariable}
use Rattle.hpr_terms.specs.Term.{Term}
use Rattle.hpr_terms.proofs.Facts.{in_here}
use Rattle.hpr_terms.specs.declared.limits.TheConstants.{MAX_PARTS}
use Rattle.hpr_syntax.specs.Body.{Body, part_count}
use Rattle.hpr_syntax.specs.Grammar as grammar
use Rattle.hpr_syntax.specs.Grammar.{Form, tagged, untagged, Rule, IsTag, Labels, IsIssuedPair, SpellsTerm, SpellsParts, SpellsPairs, SpellsHeader, SpellsFinal, SpellsNames, issued_of, tag_pair}
use Rattle.hpr_syntax.specs.Issued.{Issued, IsIssued, raised, raised_by}
use Rattle.hpr_syntax.specs.Parts.{tags_of}
use Rattle.hpr_syntax.specs.Proper.{IsProperTerm, IsProperTag, IsProperBody, IsProperPair, IsProper}
use Rattle.hpr_syntax.specs.Spelling.{Spells}
use Rattle.hpr_syntax.specs.Tree.{Tree}
use Rattle.hpr_syntax.proofs.IssuedLemmas.{raised_keeps}
use Rattle.hpr_syntax.proofs.PartBound.{few}
use Rattle.hpr_syntax.proofs.NoRefusal.{no_refusal}
use Rattle.hpr_syntax.specs.Shape.{shape}
use Rattle.hpr_terms.proofs.Plain.{name_is_variable, stream_is_variable, array_is_variable}
use Rattle.hpr_text.proofs.Named.{Named, named_rest, named_around, named_assignment, named_write, named_store, named_conditional, named_conditional_else, named_loop, text_named, parts_named, finals_named}
use Rattle.hpr_text.proofs.Numbered.{parts_counted}

-- expressions
term_proper : {r : Rule} {d : ℕ} {ts : List Token} {x : Term} → SpellsTerm r d ts x → Named ts → IsProperTerm x
term_proper (grammar.SpellsTerm.one on s) n = term_proper s n
term_proper (grammar.SpellsTerm.joined {a = a} {b = b} {t = t} on is s u) n =
    let two = named_around a t b n in (term_proper s two.0, term_proper u two.1)
term_proper (grammar.SpellsTerm.compared {a = a} {b = b} {t = t} is s u) n =
    let two = named_around a t b n in (term_proper s two.0, term_proper u two.1)
term_proper (grammar.SpellsTerm.signed {a = a} {t = t} is s) n = term_proper s (named_rest t a n)
term_proper (grammar.SpellsTerm.literal is) n = is
term_proper (grammar.SpellsTerm.name {x = x}) n = name_is_variable x (n x (in_here (Name x) []))
term_proper (grammar.SpellsTerm.bracket {ts = ts} s) n =
    term_proper s (named_around ts (Mark sign.Close) [] (named_rest (Mark sign.Open) (ts ++ (Mark sign.Close ∷ [])) n)).0
term_proper (grammar.SpellsTerm.indexed {x = x} {ts = ts} name s) n =
    let behind : List Token = ts ++ (Mark sign.CloseSquare ∷ []) in
    (array_is_variable x name, term_proper s (named_around ts (Mark sign.CloseSquare) [] (named_rest (Mark sign.OpenSquare) behind (named_rest (Name x) (Mark sign.OpenSquare ∷ behind) n))).0)

-- the tags of the parts, of which there are no more than `most`, are tags
abbrev pub AreLabels : Form → ℕ → Type 0
AreLabels form most = (n : ℕ) (ts : List Token) (t : Tag) → Labels form n ts t → n < most → IsTag t

tag_proper : (t : Tag) → IsTag t → IsProperTag t
tag_proper t (author, serial) = (author, serial.1)

module _ (form : Form) (most : ℕ) (labels : AreLabels form most) where
  body_proper : {l n m : ℕ} {ts : List Token} {b : Body} → SpellsParts form l n m ts b → m ≤ most → Named ts → IsProperBody b
  body_proper grammar.SpellsParts.nothing up names = tt
  body_proper (grammar.SpellsParts.assignment {n = n} {t = t} {x = x} {label = label} {value = value} {more = more} is v s) up names =
      let said = named_assignment label x value more names in (
        tag_proper t (labels n label t is (omega (arith, up, parts_counted s))),
        name_is_variable x said.0,
        term_proper v.0 said.1,
        body_proper s up said.2,
      )
  body_proper (grammar.SpellsParts.write {n = n} {t = t} {label = label} {value = value} {more = more} is v s) up names =
      let said = named_write label value more names in
      (tag_proper t (labels n label t is (omega (arith, up, parts_counted s))), stream_is_variable, term_proper v.0 said.0, body_proper s up said.1)
  body_proper (grammar.SpellsParts.store {n = n} {t = t} x {label = label} {index = index} {value = value} {more = more} name is both s) up names =
      let said = named_store label x index value more names in (
        tag_proper t (labels n label t is (omega (arith, up, parts_counted s))),
        array_is_variable x name,
        term_proper both.0 said.0,
        term_proper both.1 said.1,
        body_proper s up said.2,
      )
  body_proper (grammar.SpellsParts.conditional {n = n} {t = t} {label = label} {test = test} {first = first} {more = more} is v s u) up names =
      let said = named_conditional label test first more names in (
        tag_proper t (labels n label t is (omega (arith, up, parts_counted s, parts_counted u))),
        term_proper v.0 said.0,
        body_proper s (omega (arith, up, parts_counted u)) said.1,
        tt,
        body_proper u up said.2,
      )
  body_proper (grammar.SpellsParts.conditional_else {n = n} {t = t} {label = label} {test = test} {first = first} {second = second} {more = more} is v s w u) up names =
      let said = named_conditional_else label test first second more names in (
        tag_proper t (labels n label t is (omega (arith, up, parts_counted s, parts_counted w, parts_counted u))),
        term_proper v.0 said.0,
        body_proper s (omega (arith, up, parts_counted w, parts_counted u)) said.1,
        body_proper w (omega (arith, up, parts_counted u)) said.2,
        body_proper u up said.3,
      )
  body_proper (grammar.SpellsParts.while_loop {n = n} {t = t} {label = label} {test = test} {inner = inner} {more = more} is v s u) up names =
      let said = named_loop label test inner more names in (
        tag_proper t (labels n label t is (omega (arith, up, parts_counted s, parts_counted u))),
        term_proper v.0 said.0,
        body_proper s (omega (arith, up, parts_counted u)) said.1,
        body_proper u up said.2,
      )

-- pairs with numbers in range, of which none is 0
abbrev InRange : Issued → Type 0
InRange [] = Unit {0}
InRange (p ∷ ps) = IsIssuedPair p × InRange ps

raised_in_if : (b c : Bool) (a n : ℕ) (p : ℕ × ℕ) (ps : Issued) → IsIssuedPair (a, n) → InRange (p ∷ ps) → InRange (raised a n ps)
    → InRange (if b then (a, n) ∷ p ∷ ps else if c then (a, max p.1 n) ∷ ps else p ∷ raised a n ps)
raised_in_if true c a n p ps is h more = (is, h)
raised_in_if false true a n p ps is h more =
    let low : 1 ≤ p.1 = h.0.1.0 in
    let high : p.1 < 2 ^ 32 = h.0.1.1 in
    let top : n < 2 ^ 32 = is.1.1 in
    ((is.0, (omega (arith, low), omega (arith, high, top))), h.1)
raised_in_if false false a n p ps is h more = (h.0, more)

raised_in : (a n : ℕ) (ps : Issued) → IsIssuedPair (a, n) → InRange ps → InRange (raised a n ps)
raised_in a n [] is h = (is, tt)
raised_in a n (p ∷ ps) is h = raised_in_if (nat_lt a p.0) (p.0 == a) a n p ps is h (raised_in a n ps is h.1)

raises_in : (ps rows : Issued) → InRange ps → IsIssued rows → InRange rows → IsIssued (raised_by ps rows) × InRange (raised_by ps rows)
raises_in [] rows h is k = (is, k)
raises_in (p ∷ ps) rows h is k = raises_in ps (raised p.0 p.1 rows) h.1 (raised_keeps p.0 p.1 rows h.0.1.0 is) (raised_in p.0 p.1 rows h.0 k)

pairs_in : {ts : List Token} {ps : List (ℕ × ℕ)} → SpellsPairs ts ps → InRange ps
pairs_in (grammar.SpellsPairs.one is) = (is, tt)
pairs_in (grammar.SpellsPairs.more is s) = (is, pairs_in s)

proper_pairs : (ps : Issued) → InRange ps → AllByRecursion IsProperPair ps
proper_pairs [] h = tt
proper_pairs (p ∷ ps) h = ((h.0.0, h.0.1.1), proper_pairs ps h.1)

final_proper : {ts : List Token} {x : List ℕ} → SpellsFinal ts x → Named ts → IsVariable x
final_proper (grammar.plain {x = x}) n = name_is_variable x (n x (in_here (Name x) []))
final_proper grammar.out n = stream_is_variable
final_proper (grammar.array {x = x} name) n = array_is_variable x name

names_proper : {ts : List Token} {xs : List (List ℕ)} → SpellsNames ts xs → Named ts → AllByRecursion IsVariable xs
names_proper grammar.SpellsNames.none n = tt
names_proper (grammar.SpellsNames.one is) n = (final_proper is n, tt)
names_proper (grammar.SpellsNames.more {first = first} {ts = ts} is s) n =
    let two = named_around first (Mark sign.Comma) ts n in (final_proper is two.0, names_proper s two.1)

module _ (form : Form) (most : ℕ) (labels : AreLabels form most) where
  tags_in : {l n m : ℕ} {ts : List Token} {b : Body} → SpellsParts form l n m ts b → m ≤ most → (after : List Tag) → InRange (map tag_pair after) → InRange (map tag_pair (tags_of b after))
  tags_in grammar.SpellsParts.nothing up after h = h
  tags_in (grammar.SpellsParts.assignment {n = n} {t = t} {label = label} is v s) up after h =
      (labels n label t is (omega (arith, up, parts_counted s)), tags_in s up after h)
  tags_in (grammar.SpellsParts.write {n = n} {t = t} {label = label} is v s) up after h =
      (labels n label t is (omega (arith, up, parts_counted s)), tags_in s up after h)
  tags_in (grammar.SpellsParts.store {n = n} {t = t} x {label = label} name is both s) up after h =
      (labels n label t is (omega (arith, up, parts_counted s)), tags_in s up after h)
  tags_in (grammar.SpellsParts.conditional {n = n} {t = t} {label = label} {rest = rest} is v s u) up after h =
      (labels n label t is (omega (arith, up, parts_counted s, parts_counted u)), tags_in s (omega (arith, up, parts_counted u)) (tags_of rest after) (tags_in u up after h))
  tags_in (grammar.SpellsParts.conditional_else {n = n} {t = t} {label = label} {no = other} {rest = rest} is v s w u) up after h = (
    labels n label t is (omega (arith, up, parts_counted s, parts_counted w, parts_counted u)),
    tags_in s (omega (arith, up, parts_counted w, parts_counted u)) (tags_of other (tags_of rest after))
        (tags_in w (omega (arith, up, parts_counted u)) (tags_of rest after) (tags_in u up after h)),
  )
  tags_in (grammar.SpellsParts.while_loop {n = n} {t = t} {label = label} {rest = rest} is v s u) up after h =
      (labels n label t is (omega (arith, up, parts_counted s, parts_counted u)), tags_in s (omega (arith, up, parts_counted u)) (tags_of rest after) (tags_in u up after h))

header_in : {form : Form} {ts : List Token} {pairs : Option (List (ℕ × ℕ))} (b : Body) → SpellsHeader form ts pairs → InRange (map tag_pair (tags_of b []))
    → IsIssued (issued_of pairs b) × InRange (issued_of pairs b)
header_in b grammar.SpellsHeader.none tags = raises_in (map tag_pair (tags_of b [])) [] tags tt tt
header_in b (grammar.SpellsHeader.pairs {ps = ps} h) tags = raises_in ps [] (pairs_in h) tt tt

pub spelled_proper : (form : Form) (bytes : List ℕ) (t : Tree) (h : Spells form bytes t) → AreLabels form h.program.count → IsProper t
spelled_proper form bytes t h labels =
    let p = h.program in
    let all : Named h.tokens = text_named h.text in
    let issued = header_in t.body p.header_is (tags_in form p.count labels p.parts_are (omega arith) [] tt) in
    record {
      ascending = subst IsIssued (sym p.issued_is) issued.0;
      numbers = subst (λ (i : Issued). All IsProperPair i) (sym p.issued_is) (All-from_recursion IsProperPair (issued_of p.pairs t.body) (proper_pairs (issued_of p.pairs t.body) issued.1));
      body = body_proper form p.count labels p.parts_are (omega arith) (parts_named p all);
      finals = All-from_recursion IsVariable t.finals (names_proper p.names_are (finals_named p all));
    }

tagged_labels : (most : ℕ) → AreLabels tagged most
tagged_labels most n ts t (grammar.Labels.tag is) within = is

pub tagged_proper : (bytes : List ℕ) (t : Tree) → Spells tagged bytes t → IsProper t
tagged_proper bytes t h = spelled_proper tagged bytes t h (tagged_labels h.program.count)

untagged_labels : (a most : ℕ) → a < 2 ^ 32 → most < 2 ^ 32 → AreLabels (untagged a) most
untagged_labels a most author few n ts t grammar.Labels.none within = (author, (omega arith, omega (arith, few, within)))

pub untagged_proper : (a : ℕ) (bytes : List ℕ) (t : Tree) → a < 2 ^ 32 → part_count t.body < 2 ^ 32 → Spells (untagged a) bytes t → IsProper t
untagged_proper a bytes t author few h =
    spelled_proper (untagged a) bytes t h (untagged_labels a h.program.count author (omega (arith, few, parts_counted h.program.parts_are)))

-- one that no test of its shape refuses, too
pub untagged_well : (author : ℕ) (bytes : List ℕ) → author < 2 ^ 32 → (t : Tree) → Spells (untagged author) bytes t → shape t ≡ None → IsProper t
untagged_well author bytes low t is e =
    let parts : part_count t.body ≤ MAX_PARTS = few (part_count t.body) (no_refusal t e).parts in
    untagged_proper author bytes t low (omega (arith, parts)) is
