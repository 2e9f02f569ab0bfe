-- Parts after parts, and their tags and numbers, in open blocks too.
use Rattle.std.proofs.Common.{◌≡◌, ℕ, List, [], ◌∷◌, ◌++◌, refl, ap, sym, ◌∙◌, map, append_assoc}
use Rattle.std.proofs.lemmas.List.{map-append}
use Rattle.hpr_terms.specs.declared.tag.Tag.{Tag}
use Rattle.hpr_syntax.specs.declared.tree.Stmt.{Stmt}
use Rattle.hpr_syntax.specs.declared.tree.Stmt.TheVariants.{If}
use Rattle.hpr_syntax.specs.Body.{Body, done, action, branch, loop}
use Rattle.hpr_syntax.specs.BodyOf.{before, body_of}
use Rattle.hpr_syntax.specs.Parts.{tags_of}
use Rattle.hpr_syntax.specs.Issued.{Issued, raised, raised_by}
use Rattle.hpr_syntax.specs.Grammar as grammar
use Rattle.hpr_syntax.specs.Grammar.{Form, SpellsParts, tag_pair}
use Rattle.hpr_terms.specs.declared.token.Token.{Token}
use Rattle.hpr_text.specs.declared.blocks.Begun.{Begun}
use Rattle.hpr_text.specs.declared.blocks.Begun.TheVariants as begun
use Rattle.hpr_text.specs.declared.form.Mode.{Mode}
use Rattle.hpr_text.specs.declared.form.Mode.TheVariants.{Tagged, Untagged}
use Rattle.hpr_text.specs.Machine.{then_parts}

pub pushed_body : (ss : List Stmt) (s : Stmt) → body_of (ss ++ (s ∷ [])) ≡ then_parts (body_of ss) (before s done)
pushed_body [] s = refl
pushed_body (If t e a b ∷ ss) s = ap (branch t e a b) (pushed_body ss s)
pushed_body (r ∷ ss) s = ap (before r) (pushed_body ss s)

pub then_done : (b : Body) → then_parts b done ≡ b
then_done done = refl
then_done (action t d r) = ap (action t d) (then_done r)
then_done (branch t e a b r) = ap (branch t e a b) (then_done r)
then_done (loop t e b r) = ap (loop t e b) (then_done r)

pub then_assoc : (a b c : Body) → then_parts (then_parts a b) c ≡ then_parts a (then_parts b c)
then_assoc done b c = refl
then_assoc (action t d r) b c = ap (action t d) (then_assoc r b c)
then_assoc (branch t e y n r) b c = ap (branch t e y n) (then_assoc r b c)
then_assoc (loop t e y r) b c = ap (loop t e y) (then_assoc r b c)

pub tags_then : (b c : Body) (after : List Tag) → tags_of (then_parts b c) after ≡ tags_of b (tags_of c after)
tags_then done c after = refl
tags_then (action t d r) c after = ap (λ ts. t ∷ ts) (tags_then r c after)
tags_then (branch t e y n r) c after = ap (λ ts. t ∷ tags_of y (tags_of n ts)) (tags_then r c after)
tags_then (loop t e y r) c after = ap (λ ts. t ∷ tags_of y ts) (tags_then r c after)

pub tags_after : (b : Body) (after : List Tag) → tags_of b after ≡ tags_of b [] ++ after
tags_after done after = refl
tags_after (action t d r) after = ap (λ ts. t ∷ ts) (tags_after r after)
tags_after (branch t e y n r) after =
    let inner : tags_of n (tags_of r after) ≡ tags_of n (tags_of r []) ++ after =
    tags_after n (tags_of r after) ∙ ap (λ ts. tags_of n [] ++ ts) (tags_after r after) ∙ sym (append_assoc (tags_of n []) (tags_of r []) after)
    ∙ ap (λ ts. ts ++ after) (sym (tags_after n (tags_of r []))) in
    ap (λ ts. t ∷ ts)
    (tags_after y (tags_of n (tags_of r after)) ∙ ap (λ ts. tags_of y [] ++ ts) inner ∙ sym (append_assoc (tags_of y []) (tags_of n (tags_of r [])) after)
    ∙ ap (λ ts. ts ++ after) (sym (tags_after y (tags_of n (tags_of r [])))))
tags_after (loop t e y r) after =
    ap (λ ts. t ∷ ts)
    (tags_after y (tags_of r after) ∙ ap (λ ts. tags_of y [] ++ ts) (tags_after r after) ∙ sym (append_assoc (tags_of y []) (tags_of r []) after)
    ∙ ap (λ ts. ts ++ after) (sym (tags_after y (tags_of r []))))

pub raised_after : (ps qs : List (ℕ × ℕ)) (issued : Issued) → raised_by (ps ++ qs) issued ≡ raised_by qs (raised_by ps issued)
raised_after [] qs issued = refl
raised_after (p ∷ ps) qs issued = raised_after ps qs (raised p.0 p.1 issued)

-- the tags of parts, and then more tags
pub tags_raise : (b : Body) (after : List Tag) (is : Issued) → raised_by (map tag_pair (tags_of b after)) is ≡ raised_by (map tag_pair after) (raised_by (map tag_pair (tags_of b [])) is)
tags_raise b after is =
    ap (λ ts. raised_by (map tag_pair ts) is) (tags_after b after) ∙ ap (λ ps. raised_by ps is) (map-append tag_pair (tags_of b []) after)
    ∙ raised_after (map tag_pair (tags_of b [])) (map tag_pair after) is

-- ---- open blocks

-- the tags of the open blocks and the parts, in preorder, and then more tags
abbrev pub tags_read : List Begun → Body → List Tag → List Tag
tags_read [] parts more = tags_of parts more
tags_read (begun.Then r ∷ os) parts more = tags_read os r.before (r.tag ∷ tags_of parts more)
tags_read (begun.Else r first ∷ os) parts more = tags_read os r.before (r.tag ∷ tags_of first (tags_of parts more))
tags_read (begun.Loop r ∷ os) parts more = tags_read os r.before (r.tag ∷ tags_of parts more)

pub read_then : (os : List Begun) (b c : Body) (more : List Tag) → tags_read os (then_parts b c) more ≡ tags_read os b (tags_of c more)
read_then [] b c more = tags_then b c more
read_then (begun.Then r ∷ os) b c more = ap (λ ts. tags_read os r.before (r.tag ∷ ts)) (tags_then b c more)
read_then (begun.Else r first ∷ os) b c more = ap (λ ts. tags_read os r.before (r.tag ∷ tags_of first ts)) (tags_then b c more)
read_then (begun.Loop r ∷ os) b c more = ap (λ ts. tags_read os r.before (r.tag ∷ ts)) (tags_then b c more)

grows : (os : List Begun) (c : Body) (ts us more : List Tag) → ts ≡ us ++ more → ((m : List Tag) → tags_read os c m ≡ tags_read os c [] ++ m) → tags_read os c ts ≡ tags_read os c us ++ more
grows os c ts us more e go = ap (tags_read os c) e ∙ go (us ++ more) ∙ sym (append_assoc (tags_read os c []) us more) ∙ ap (λ x. x ++ more) (sym (go us))

tags_two : (b c : Body) (more : List Tag) → tags_of b (tags_of c more) ≡ tags_of b (tags_of c []) ++ more
tags_two b c more =
    tags_after b (tags_of c more) ∙ ap (λ ts. tags_of b [] ++ ts) (tags_after c more) ∙ sym (append_assoc (tags_of b []) (tags_of c []) more)
    ∙ ap (λ ts. ts ++ more) (sym (tags_after b (tags_of c [])))

read_after : (os : List Begun) (b : Body) (more : List Tag) → tags_read os b more ≡ tags_read os b [] ++ more
read_after [] b more = tags_after b more
read_after (begun.Then r ∷ os) b more = grows os r.before _ (r.tag ∷ tags_of b []) more (ap (λ ts. r.tag ∷ ts) (tags_after b more)) (read_after os r.before)
read_after (begun.Else r first ∷ os) b more = grows os r.before _ (r.tag ∷ tags_of first (tags_of b [])) more (ap (λ ts. r.tag ∷ ts) (tags_two first b more)) (read_after os r.before)
read_after (begun.Loop r ∷ os) b more = grows os r.before _ (r.tag ∷ tags_of b []) more (ap (λ ts. r.tag ∷ ts) (tags_after b more)) (read_after os r.before)

-- one more tag raises its author's number
pub tag_raises : (os : List Begun) (b : Body) (t : Tag)
    → raised_by (map tag_pair (tags_read os b (t ∷ []))) [] ≡ raised t.author t.serial (raised_by (map tag_pair (tags_read os b [])) [])
tag_raises os b t =
    ap (λ ts. raised_by (map tag_pair ts) []) (read_after os b (t ∷ [])) ∙ ap (λ ps. raised_by ps []) (map-append tag_pair (tags_read os b []) (t ∷ []))
    ∙ raised_after (map tag_pair (tags_read os b [])) (tag_pair t ∷ []) []

-- ---- parts that are spelled

-- parts after parts
pub parts_then : {f : Form} {l n k m : ℕ} {a b : List Token} {p q : Body} → SpellsParts f l n k a p → SpellsParts f l k m b q → SpellsParts f l n m (a ++ b) (then_parts p q)
parts_then grammar.nothing h = h
parts_then (grammar.assignment {x = x} label value rest) h = rw (append_assoc, append_assoc) (grammar.assignment {x = x} label value (parts_then rest h))
parts_then (grammar.write label value rest) h = rw (append_assoc, append_assoc) (grammar.write label value (parts_then rest h))
parts_then (grammar.store x name label both rest) h = rw (append_assoc, append_assoc, append_assoc) (grammar.store x name label both (parts_then rest h))
parts_then (grammar.conditional label test first rest) h = rw (append_assoc, append_assoc, append_assoc) (grammar.conditional label test first (parts_then rest h))
parts_then (grammar.conditional_else label test first second rest) h =
    rw (append_assoc, append_assoc, append_assoc, append_assoc) (grammar.conditional_else label test first second (parts_then rest h))
parts_then (grammar.while_loop label test inner rest) h = rw (append_assoc, append_assoc, append_assoc) (grammar.while_loop label test inner (parts_then rest h))

-- ---- counts

-- how many parts the machine has given their tags, where n parts have begun
abbrev pub tally : Mode → ℕ → ℕ
tally Tagged n = 0
tally (Untagged a) n = n
