-- One line more in a draft.
use Rattle.std.proofs.Common.{◌≡◌, refl, true, false, List, [], Ok, Err}
use Rattle.std.specs.Prelude.{Result}
use Rattle.pg_parse_stmt.specs.declared.tree.StmtTree.{StmtTree}
use Rattle.pg_parse_stmt.specs.declared.tree.StmtTree.TheVariants as stmt
use Rattle.pg_model.specs.declared.catalogue.TableShape.{TableShape}
use Rattle.pg_resolve.specs.declared.fault.AnalyseFault.{AnalyseFault}
use Rattle.pg_resolve.specs.declared.fault.AnalyseFault.TheVariants as fault
use Rattle.pg_analyse.specs.Analysis.{Declares, analysis, declaration}
use Rattle.pg_script.specs.Parts.{with_table}
use Rattle.pg_script.specs.Reasons.{fault_reasons, is_of_session}

-- what a declaration leaves is what it says
pub declares_table : (before after : List TableShape) (outcome : Result TableShape AnalyseFault) →
    Declares before outcome after → after ≡ with_table before outcome
declares_table before after (Ok shape) is = is
declares_table before after (Err fault) is = absurd is

pub declares_fine : (before after : List TableShape) (outcome : Result TableShape AnalyseFault) →
    Declares before outcome after → fault_reasons outcome ≡ []
declares_fine before after (Ok shape) is = refl
declares_fine before after (Err fault) is = absurd is

-- what a session may be given declares no table
pub no_declaration : (catalogue : List TableShape) (tree : StmtTree) → is_of_session tree ≡ true →
    declaration catalogue tree ≡ Err fault.Later
no_declaration catalogue stmt.Begin is = refl
no_declaration catalogue stmt.Commit is = refl
no_declaration catalogue stmt.Rollback is = refl
no_declaration catalogue (stmt.Select select) is = refl
no_declaration catalogue (stmt.Insert insert) is = refl
no_declaration catalogue (stmt.Update update) is = refl
no_declaration catalogue (stmt.Delete delete) is = refl
no_declaration catalogue (stmt.Merge merge) is = refl
no_declaration catalogue (stmt.CreateTable table) is = absurd (let e : false ≡ true = is in cc)
no_declaration catalogue (stmt.CreateIndex index) is = absurd (let e : false ≡ true = is in cc)

-- what a session may not be given is no statement with names to resolve
pub no_statement : (catalogue : List TableShape) (tree : StmtTree) → is_of_session tree ≡ false →
    analysis catalogue tree ≡ Err fault.Later
no_statement catalogue stmt.Begin is = absurd (let e : true ≡ false = is in cc)
no_statement catalogue stmt.Commit is = absurd (let e : true ≡ false = is in cc)
no_statement catalogue stmt.Rollback is = absurd (let e : true ≡ false = is in cc)
no_statement catalogue (stmt.Select select) is = absurd (let e : true ≡ false = is in cc)
no_statement catalogue (stmt.Insert insert) is = absurd (let e : true ≡ false = is in cc)
no_statement catalogue (stmt.Update update) is = absurd (let e : true ≡ false = is in cc)
no_statement catalogue (stmt.Delete delete) is = absurd (let e : true ≡ false = is in cc)
no_statement catalogue (stmt.Merge merge) is = absurd (let e : true ≡ false = is in cc)
no_statement catalogue (stmt.CreateTable table) is = refl
no_statement catalogue (stmt.CreateIndex index) is = refl
