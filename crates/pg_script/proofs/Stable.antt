-- What a line says stays the same when tables or sessions follow.
use Rattle.std.proofs.Common.{◌≡◌, refl, ◌∙◌, ap, ℕ, suc, zero, Bool, true, false, cond, List, [], ◌∷◌, ◌++◌, Option, Some, None, Err}
use Rattle.std.specs.Option.{option_and_then, option_map}
use Rattle.std.proofs.lemmas.List.{map-append}
use Rattle.pg_lists.specs.Numbered.{item_at}
use Rattle.pg_names.specs.Names.{number_of}
use Rattle.pg_parse_stmt.specs.declared.tree.Insert.{Insert}
use Rattle.pg_parse_stmt.specs.declared.tree.StmtTree.{StmtTree}
use Rattle.pg_parse_stmt.specs.declared.tree.StmtTree.TheVariants as stmt
use Rattle.pg_model.specs.declared.catalogue.TableShape.{TableShape}
use Rattle.pg_model.specs.declared.statement.NamedTable.{NamedTable}
use Rattle.pg_resolve.specs.declared.fault.AnalyseFault.TheVariants as fault
use Rattle.pg_analyse.specs.Analysis.{analysis, insert_analysis}
use Rattle.pg_analyse.specs.Built.{is_built_statement}
use Rattle.pg_analyse.specs.Queries.{table_named, table_names}
use Rattle.pg_script.specs.Reasons.{fault_reasons, is_of_setup}
use Rattle.pg_script.proofs.Appearances.{number_grows}

-- an item keeps its number when others stand behind
pub at_grows : {X : Type 0} (xs more : List X) (number : ℕ) (x : X) → item_at xs number ≡ Some x →
    item_at (xs ++ more) number ≡ Some x
at_grows [] more number x is = absurd (cc)
at_grows (y ∷ ys) more zero x is = is
at_grows (y ∷ ys) more (suc number) x is = at_grows ys more number x is

-- a table that is found under its name is found when others stand behind
pub table_grows : (catalogue more : List TableShape) (name : List ℕ) (named : NamedTable) →
    table_named catalogue name ≡ Some named → table_named (catalogue ++ more) name ≡ Some named
table_grows catalogue more name named is = at (number_of (table_names catalogue) name) refl is
  where
    found : (number : ℕ) (shape : Option TableShape) → number_of (table_names catalogue) name ≡ Some number →
        item_at catalogue number ≡ shape →
        option_map (λ s. record { table = number; shape = s }) shape ≡ Some named →
        table_named (catalogue ++ more) name ≡ Some named
    found number None e f g = absurd (cc)
    found number (Some shape) e f g =
        let names : number_of (table_names (catalogue ++ more)) name ≡ Some number =
        ap (λ ns. number_of ns name) (map-append (λ s. s.name) catalogue more)
        ∙ number_grows (table_names catalogue) (table_names more) name number e in
        rw (names, at_grows catalogue more number shape f) g

    at : (number : Option ℕ) → number_of (table_names catalogue) name ≡ number →
        option_and_then
        (λ n. option_map (λ s. record { table = n; shape = s }) (item_at catalogue n)) number
        ≡ Some named →
        table_named (catalogue ++ more) name ≡ Some named
    at None e f = absurd (cc)
    at (Some number) e f = found number (item_at catalogue number) e refl f

-- an INSERT without an error is analysed in the same way when tables follow
insert_grows : (catalogue more : List TableShape) (insert : Insert) →
    fault_reasons (insert_analysis insert (table_named catalogue insert.table)) ≡ [] →
    insert_analysis insert (table_named (catalogue ++ more) insert.table)
    ≡ insert_analysis insert (table_named catalogue insert.table)
insert_grows catalogue more insert fine = at (table_named catalogue insert.table) refl fine
  where
    at : (named : Option NamedTable) → table_named catalogue insert.table ≡ named →
        fault_reasons (insert_analysis insert named) ≡ [] →
        insert_analysis insert (table_named (catalogue ++ more) insert.table) ≡ insert_analysis insert named
    at None is f = absurd (cc)
    at (Some named) is f = ap (insert_analysis insert) (table_grows catalogue more insert.table named is)

built_grows : (catalogue more : List TableShape) (insert : Insert) →
    fault_reasons (analysis catalogue (stmt.Insert insert)) ≡ [] →
    analysis (catalogue ++ more) (stmt.Insert insert) ≡ analysis catalogue (stmt.Insert insert)
built_grows catalogue more insert fine = at (is_built_statement (stmt.Insert insert)) fine
  where
    at : (built : Bool) →
        fault_reasons (cond built (insert_analysis insert (table_named catalogue insert.table)) (Err fault.Later)) ≡ [] →
        cond built (insert_analysis insert (table_named (catalogue ++ more) insert.table)) (Err fault.Later)
        ≡ cond built (insert_analysis insert (table_named catalogue insert.table)) (Err fault.Later)
    at true f = insert_grows catalogue more insert f
    at false f = refl

-- a setup statement without an error is analysed in the same way when tables follow
pub setup_grows : (catalogue more : List TableShape) (tree : StmtTree) → is_of_setup tree ≡ true →
    fault_reasons (analysis catalogue tree) ≡ [] → analysis (catalogue ++ more) tree ≡ analysis catalogue tree
setup_grows catalogue more stmt.Begin is fine = refl
setup_grows catalogue more stmt.Commit is fine = refl
setup_grows catalogue more stmt.Rollback is fine = refl
setup_grows catalogue more (stmt.Select select) is fine = absurd (let e : false ≡ true = is in cc)
setup_grows catalogue more (stmt.Insert insert) is fine = built_grows catalogue more insert fine
setup_grows catalogue more (stmt.Update update) is fine = absurd (let e : false ≡ true = is in cc)
setup_grows catalogue more (stmt.Delete delete) is fine = absurd (let e : false ≡ true = is in cc)
setup_grows catalogue more (stmt.Merge merge) is fine = refl
setup_grows catalogue more (stmt.CreateTable table) is fine = refl
setup_grows catalogue more (stmt.CreateIndex index) is fine = refl
