use Rattle.std.proofs.Common.{◌≡◌, length, ◌↔◌, ◌+◌, ◌∙◌, ℕ, List, Contains, IfSome, sym, ap, subst, arith}
use Rattle.hpr_paths.specs.Spots.{Spot, UsesAt}
use Rattle.hpr_reach.specs.Live.{IsLive}
use Rattle.hpr_reach.proofs.ByTags.{live_tags}
use Rattle.hpr_build.specs.declared.uses.Use.{Use}
use Rattle.hpr_build.specs.Uses.{AreApart, AreUses}
use Rattle.hpr_build.specs.Variables.{AreUsers, AreDefinitions, IsFreeRow}
use Rattle.hpr_graph.specs.declared.vertex.Vertex.{Vertex}
use Rattle.hpr_build.specs.Links.{vertices_of}
use Rattle.hpr_graph.specs.Graphs.{IsOnce}
use Rattle.hpr_build.proofs.ControlFamily.{put_vertices}
use Rattle.hpr_build.proofs.UseRows.{ends_are, same_ends, uses_apart}
use Rattle.hpr_build.proofs.tables.tables_of.Goals as goal

pub returns-clause-tables : goal.returns-clause-tables
returns-clause-tables c =
    let t = c.args.program.now in
    let made : c.push_vertices.new.into.items ≡ vertices_of t c.in_ok-inits.inits.items =
    put_vertices c.args.program.now c.in_ok-inits.inits.items c.deref-3.result.now c.finals.result.now c.deref-2.result.now c.args.vertices.now.items c.push_vertices.new.into.items
    c.in_ok-push_vertices.ensures c.requires (c.deref-2.ensures.value ∙ c.in_ok-places.ensures) c.finals.ensures.finals c.deref-3.ensures.value in
    let succ = c.in_ok-succ.ensures in
    let names = c.in_ok-variables.variables.names.items in
    let uses = c.in_ok-uses.uses.items in
    let are = c.in_ok-uses.ensures.exact in
    record {
      program = c.finals.ensures.program;
      succ = succ;
      parts = c.in_ok-places.ensures;
      inits_ascending = c.in_ok-inits.ensures.ascending;
      inits = λ x. (
        (λ h. (live_tags t c.finals.ensures.program x).0 (subst (λ (s : List Spot). IsLive s x) succ ((c.in_ok-inits.ensures.exact x).0 h).1)),
        (λ h.
            let live : IsLive c.in_ok-succ.succ x = subst (λ (s : List Spot). IsLive s x) (sym succ) ((live_tags t c.finals.ensures.program x).1 h) in
            (c.in_ok-inits.ensures.exact x).1 ((c.in_ok-variables.ensures.names x).1 (live.0, live.3), live)),
      );
      exit = ap (λ (n : ℕ). n + 1) c.part_count-exit.ensures.count;
      count = c.len-vertex_count.ensures ∙ c.push_vertices.new.into.ok.0 ∙ ap (λ (vs : List Vertex). length vs) made;
      names_ascending = c.in_ok-variables.ensures.ascending;
      names = λ x. subst (λ (s : List Spot). Contains names x ↔ ((p : ℕ) × UsesAt s p x)) succ (c.in_ok-variables.ensures.names x);
      definition_rows = c.in_ok-variables.ensures.definition_rows;
      definitions = subst (λ (s : List Spot). AreDefinitions s names c.in_ok-variables.variables.definitions.items) succ c.in_ok-variables.ensures.definitions;
      user_rows = c.in_ok-variables.ensures.user_rows;
      users = subst (λ (s : List Spot). AreUsers s names c.in_ok-variables.variables.users.items) succ c.in_ok-variables.ensures.users;
      final_rows = omega (arith, c.in_ok-final_numbers.ensures.len, c.deref-3.ensures.len);
      finals = ends_are t uses are names c.in_ok-final_numbers.final_numbers.items
          (same_ends _ _ c.deref-4.result.now uses c.deref-5.result.now names c.in_ok-final_numbers.final_numbers.items
          (ap (λ (n : ℕ). n + 1) c.part_count-exit.ensures.count) c.deref-4.ensures.value c.deref-5.ensures.value c.in_ok-final_numbers.ensures.exact);
      free = subst (λ (s : List Spot). IfSome c.in_ok-free.free (IsFreeRow s)) succ c.in_ok-free.ensures;
    }

pub returns-clause-vertices : goal.returns-clause-vertices
returns-clause-vertices c =
    put_vertices c.args.program.now c.in_ok-inits.inits.items c.deref-3.result.now c.finals.result.now c.deref-2.result.now c.args.vertices.now.items c.push_vertices.new.into.items
    c.in_ok-push_vertices.ensures c.requires (c.deref-2.ensures.value ∙ c.in_ok-places.ensures) c.finals.ensures.finals c.deref-3.ensures.value

pub final_numbers-requires-clause-apart : goal.final_numbers-requires-clause-apart
final_numbers-requires-clause-apart c =
    let t = c.args.program.now in
    let uses = c.in_ok-uses.uses.items in
    subst (λ (us : List Use). AreApart (c.part_count-exit.result + 1) us) (sym c.deref-4.ensures.value)
    (subst (λ (n : ℕ). AreApart n uses) (sym (ap (λ (n : ℕ). n + 1) c.part_count-exit.ensures.count)) (uses_apart t uses c.in_ok-uses.ensures.exact c.finals.ensures.program))

pub variables_of-requires-clause-uses : goal.variables_of-requires-clause-uses
variables_of-requires-clause-uses c = subst (λ (us : List Use). AreUses c.args.program.now us) (sym c.deref.ensures.value) c.in_ok-uses.ensures.exact

pub variables_of-requires-clause-once : goal.variables_of-requires-clause-once
variables_of-requires-clause-once c = subst (λ (us : List Use). IsOnce us) (sym c.deref.ensures.value) c.in_ok-uses.ensures.once
