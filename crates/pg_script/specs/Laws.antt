-- What is proved of the reading alone.
use Rattle.std.specs.Prelude.{ℕ, ◌≡◌, ◌⊎◌, List}
use Rattle.pg_model.specs.declared.script.Script.{Script}
use Rattle.pg_script.specs.declared.fault.Reason.{Reason}
use Rattle.pg_script.specs.declared.fault.Reason.TheVariants as reason
use Rattle.pg_script.specs.Reading.{IsRefused, Say}

-- two scripts with the same parts
pub record HaveSameParts (a b : Script) : Type 0 where
  pub version : a.version ≡ b.version
  pub mode : a.mode ≡ b.mode
  pub sessions : a.sessions ≡ b.sessions
  pub catalogue : a.catalogue ≡ b.catalogue
  pub setup : a.setup ≡ b.setup
  pub lines : a.lines ≡ b.lines

-- bytes say at most one script
abbrev pub BytesSayOneScript : Type 0
BytesSayOneScript = (bytes : List ℕ) (a b : Script) → Say bytes a → Say bytes b → HaveSameParts a b

-- bytes that say a script are not refused
abbrev pub NoScriptIsRefused : Type 0
NoScriptIsRefused =
    (bytes : List ℕ) (script : Script) (number : ℕ) (why : Reason) → Say bytes script → IsRefused bytes number why → ⊥

-- the same reason; of a path of 65 nodes and a ninth source at one place the grammar alone knows which it is
abbrev pub IsSameReason : Reason → Reason → Type 0
IsSameReason a b =
    (a ≡ b)
    ⊎ (((place : ℕ) × (a ≡ reason.Depth place) × (b ≡ reason.Items place))
    ⊎ ((place : ℕ) × (a ≡ reason.Items place) × (b ≡ reason.Depth place)))

-- bytes are refused at one line, for one reason
abbrev pub BytesAreRefusedOnce : Type 0
BytesAreRefusedOnce =
    (bytes : List ℕ) (m n : ℕ) (a b : Reason) → IsRefused bytes m a → IsRefused bytes n b →
    (m ≡ n) × IsSameReason a b
