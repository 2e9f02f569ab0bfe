-- What a part says, and what stands around it.
--
-- Standing                        == a part's content, the loops that enclose it from the outermost on (a
--                                    loop's own is the last), and its control parent: the part right around
--                                    it with the branch, true for a loop's body
-- StandsAs loops parent body t s  == the part t of a block inside these loops, right under this parent,
--                                    stands so
-- StandsAsIn body t s             == the part t of a program stands so
-- Says body t c                   == the part t says the content c
use Rattle.std.specs.Prelude.{◌≡◌, true, false, ◌⊎◌, List, [], ◌∷◌, ◌++◌, Some, None}
use Rattle.hpr_terms.specs.declared.tag.Tag.{Tag}
use Rattle.hpr_syntax.specs.declared.rows.Content.{Content}
use Rattle.hpr_syntax.specs.declared.rows.Content.TheVariants.{If, While}
use Rattle.hpr_syntax.specs.Rows.{content_by, Parent}
use Rattle.hpr_syntax.specs.Body.{Body, done, action, branch, loop}

pub record Standing : Type 0 where
  pub content : Content
  pub nest : List Tag
  pub parent : Parent

abbrev pub StandsAs : List Tag → Parent → Body → Tag → Standing → Type 0
StandsAs nest up done v s = ⊥
StandsAs nest up (action t d rest) v s =
    ((v ≡ t) × (s ≡ record { content = content_by d; nest = nest; parent = up })) ⊎ StandsAs nest up rest v s
StandsAs nest up (branch t e a b rest) v s =
    ((v ≡ t) × (s ≡ record { content = If e; nest = nest; parent = up }))
    ⊎ (StandsAs nest (Some (t, true)) a v s ⊎ (StandsAs nest (Some (t, false)) b v s ⊎ StandsAs nest up rest v s))
StandsAs nest up (loop t e b rest) v s =
    ((v ≡ t) × (s ≡ record { content = While e; nest = nest ++ (t ∷ []); parent = up }))
    ⊎ (StandsAs (nest ++ (t ∷ [])) (Some (t, true)) b v s ⊎ StandsAs nest up rest v s)

abbrev pub StandsAsIn : Body → Tag → Standing → Type 0
StandsAsIn p v s = StandsAs [] None p v s

abbrev pub Says : Body → Tag → Content → Type 0
Says done v c = ⊥
Says (action t d rest) v c = ((v ≡ t) × (c ≡ content_by d)) ⊎ Says rest v c
Says (branch t e a b rest) v c = ((v ≡ t) × (c ≡ If e)) ⊎ (Says a v c ⊎ (Says b v c ⊎ Says rest v c))
Says (loop t e b rest) v c = ((v ≡ t) × (c ≡ While e)) ⊎ (Says b v c ⊎ Says rest v c)
