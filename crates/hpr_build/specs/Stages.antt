-- What holds while the graph of a program is made.
--
-- AreTables t          == the tables are those of the program
-- IsVariable tree v    == the points are those that define the name and that use it, and the number of its
--                         use at Exit is that of its vertex
-- IsBegun tree inits most g == the graph has the vertices of the program, some of its links, and not more
--                              links than this
use Rattle.std.specs.Prelude.{◌≡◌, ◌+◌, ◌≤◌, ◌↔◌, ℕ, Some, List, Contains, IfSome, length, vec_len, slice_get}
use Rattle.std.specs.List.Sorted.{IsStrictlySortedBy}
use Rattle.std.specs.Cmp.Lexicographic.{slice_cmp}
use Rattle.std.specs.Ordering.{nat_cmp}
use Rattle.hpr_syntax.specs.Tree.{Tree}
use Rattle.hpr_syntax.specs.Shape.{IsProgram}
use Rattle.hpr_syntax.specs.Initial.{IsInitial}
use Rattle.hpr_paths.specs.Spots.{defined_at, UsesAt}
use Rattle.hpr_paths.specs.Successors.{spots}
use Rattle.hpr_graph.specs.declared.link.Link.{Link}
use Rattle.hpr_graph.specs.Numbered.{Numbered, HasLink, link_count}
use Rattle.hpr_build.specs.declared.tables.Tables.{Tables}
use Rattle.hpr_build.specs.declared.tables.Variable.{Variable}
use Rattle.hpr_graph.specs.Graphs.{IsOnce}
use Rattle.hpr_build.specs.Places.{places}
use Rattle.hpr_build.specs.Variables.{AreUsers, AreDefinitions, AreFinalNumbers, IsFreeRow}
use Rattle.hpr_build.specs.Links.{vertices_of, exit_of, IsLinkOf}

pub record AreTables (t : Tables) : Type 0 where
  pub program : IsProgram t.program.now
  pub succ : t.succ ≡ spots t.program.now
  pub parts : t.places.items ≡ places t.program.now
  pub inits_ascending : IsStrictlySortedBy (slice_cmp nat_cmp) t.inits.items
  pub inits : (x : List ℕ) → Contains t.inits.items x ↔ IsInitial t.program.now x
  pub exit : t.exit ≡ exit_of t.program.now
  pub count : t.vertex_count ≡ length (vertices_of t.program.now t.inits.items)
  pub names_ascending : IsStrictlySortedBy (slice_cmp nat_cmp) t.variables.names.items
  pub names : (x : List ℕ) → Contains t.variables.names.items x ↔ ((p : ℕ) × UsesAt (spots t.program.now) p x)
  pub definition_rows : vec_len t.variables.definitions ≡ vec_len t.variables.names
  pub definitions : AreDefinitions (spots t.program.now) t.variables.names.items t.variables.definitions.items
  pub user_rows : vec_len t.variables.users ≡ vec_len t.variables.names
  pub users : AreUsers (spots t.program.now) t.variables.names.items t.variables.users.items
  pub final_rows : vec_len t.final_numbers ≡ vec_len t.variables.names
  pub finals :
      AreFinalNumbers (exit_of t.program.now) t.program.now.finals t.variables.names.items t.final_numbers.items
  pub free : IfSome t.free (IsFreeRow (spots t.program.now))

pub record IsVariable (tree : Tree) (v : Variable) : Type 0 where
  pub definitions_once : IsOnce v.definitions.now
  pub definitions : (p : ℕ) → Contains v.definitions.now p ↔ (defined_at (spots tree) p ≡ Some v.name.now)
  pub users_once : IsOnce v.users.now
  pub users : (p : ℕ) → Contains v.users.now p ↔ UsesAt (spots tree) p v.name.now
  pub low : exit_of tree ≤ v.final_number
  pub final : (k : ℕ) → slice_get tree.finals k ≡ Some v.name.now → v.final_number ≡ exit_of tree + k

pub record IsBegun (tree : Tree) (inits : List (List ℕ)) (most : ℕ) (g : Numbered) : Type 0 where
  pub vertices : g.vertices ≡ vertices_of tree inits
  pub links : (to : ℕ) (l : Link) → HasLink g to l → IsLinkOf tree inits to l
  pub room : link_count g ≤ most
