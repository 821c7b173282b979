-- What is proved of the definitions alone.
use Rattle.std.specs.Prelude.{◌≡◌, ◌⊎◌, ◌&&◌, ℕ, Bool, true, nat_le, List, length, Result, Ok, Err}
use Rattle.pg_names.specs.Names.{is_name}
use Rattle.pg_line.specs.declared.form.LineForm.{LineForm}
use Rattle.pg_line.specs.declared.form.LineForm.TheVariants as form
use Rattle.pg_line.specs.declared.form.PlaceFault.{PlaceFault}
use Rattle.pg_line.specs.declared.form.PlaceFault.TheVariants as fault
use Rattle.pg_line.specs.declared.form.SessionName.{SessionName}
use Rattle.pg_parse_stmt.specs.Laws.{is_statement}
use Rattle.pg_parse_stmt.specs.declared.tree.StmtTree.{StmtTree}
use Rattle.pg_line.specs.Forms.{IsFormOf}

-- the same fault, or the same place, where a path of 65 nodes and a ninth source are told apart by the grammar alone
abbrev pub IsSameFault : PlaceFault → PlaceFault → Type 0
IsSameFault a b =
    (a ≡ b)
    ⊎ (((place : ℕ) × (a ≡ fault.Depth place) × (b ≡ fault.Items place))
    ⊎ ((place : ℕ) × (a ≡ fault.Items place) × (b ≡ fault.Depth place)))

-- the same statement, or the same fault
abbrev pub IsSameOutcome : Result StmtTree PlaceFault → Result StmtTree PlaceFault → Type 0
IsSameOutcome (Ok a) (Ok b) = a ≡ b
IsSameOutcome (Err a) (Err b) = IsSameFault a b
IsSameOutcome _ _ = ⊥

-- the same form, with the same session and statement
abbrev pub IsSameForm : LineForm → LineForm → Type 0
IsSameForm (form.Setup a) (form.Setup b) = IsSameOutcome a b
IsSameForm (form.Given s a) (form.Given t b) = (s ≡ t) × IsSameOutcome a b
IsSameForm a b = a ≡ b

-- a line has at most one form
abbrev pub EachLineHasAtMostOneForm : Type 0
EachLineHasAtMostOneForm =
    (version : ℕ) (line : List ℕ) (a b : LineForm) → IsFormOf version line a → IsFormOf version line b → IsSameForm a b

-- a session has a name of one or more bytes
abbrev pub is_named : SessionName → Bool
is_named session = is_name session.name && nat_le 1 (length session.name)

-- what stands where a statement is written is a statement within the limits, or none
abbrev pub is_within : Result StmtTree PlaceFault → Bool
is_within (Ok tree) = is_statement tree
is_within (Err fault) = true

-- the session that a line names is one, and so is its statement
abbrev pub is_form_within : LineForm → Bool
is_form_within form.Comment = true
is_form_within (form.Setup statement) = is_within statement
is_form_within (form.Given session statement) = is_named session && is_within statement
is_form_within (form.Pause session label) = is_named session
is_form_within (form.Go session) = is_named session
is_form_within (form.Cut session) = is_named session
is_form_within form.Unknown = true

-- what a line says keeps the limits of the language
abbrev pub EachFormIsWithin : Type 0
EachFormIsWithin =
    (version : ℕ) (line : List ℕ) (says : LineForm) → IsFormOf version line says → is_form_within says ≡ true
