-- The drafts that wait.
use Rattle.std.proofs.Common.{◌≡◌, ℕ, suc, cond, Option, Some, None, option_and_then, slice_get, refl, ap, sym, ◌∙◌}
use Rattle.pg_heap.specs.declared.slot.State.{State}
use Rattle.pg_heap.specs.declared.slot.State.TheVariants.{Dead, Placed, Settled}
use Rattle.pg_rows.specs.Stores.{Stored, is_placed, stored_of}
use Rattle.pg_table.specs.declared.placing.DraftKind.{DraftKind}
use Rattle.pg_table.specs.declared.placing.DraftKind.TheVariants.{First, Next}
use Rattle.pg_table.specs.declared.placing.Placing.{Placing}
use Rattle.pg_table.specs.States.{TableState, draft_number, of_kind, waiting_version}

-- what is read of a draft of a kind is read of one that is of the kind
pub kind_some : {X : Type 0} (wanted kind : DraftKind) (o : Option X) (x : X) → of_kind wanted kind o ≡ Some x → (kind ≡ wanted) × (o ≡ Some x)
kind_some First First o x is = (refl, is)
kind_some Next Next o x is = (refl, is)
kind_some First Next o x is = absurd (cc is)
kind_some Next First o x is = absurd (cc is)

pub kind_same : {X : Type 0} (kind : DraftKind) (o : Option X) → of_kind kind kind o ≡ o
kind_same First o = refl
kind_same Next o = refl

pub kind_none : {X : Type 0} (wanted kind : DraftKind) (o : Option X) → o ≡ None → of_kind wanted kind o ≡ None
kind_none First First o none = none
kind_none Next Next o none = none
kind_none First Next o none = refl
kind_none Next First o none = refl

-- a draft of a kind that waits under a number, and the placing that names it
pub record IsWaiting (kind : DraftKind) (state : TableState) (i number : ℕ) : Type 0 where
  pub placing : Placing
  pub at_row : slice_get state.placings i ≡ Some placing
  pub kind_is : placing.kind ≡ kind
  pub version : placing.version ≡ number
  pub stored : Stored
  pub is : stored_of state.store.versions number ≡ Some stored
  pub state_is : stored.state ≡ Placed

pub waiting_at : (kind : DraftKind) (state : TableState) (i number : ℕ) → draft_number kind state (suc i) ≡ Some number → IsWaiting kind state i number
waiting_at kind state i number is = at (slice_get state.placings i) refl is
  where
    from : (p : Placing) → slice_get state.placings i ≡ Some p → p.kind ≡ kind → (o : Option Stored) → stored_of state.store.versions p.version ≡ o →
        option_and_then (λ stored. cond (is_placed stored.state) (Some p.version) None) o ≡ Some number → IsWaiting kind state i number
    from p there of None known e = absurd (cc e)
    from p there of (Some stored) known e = by_state stored.state refl e
      where
        by_state : (s : State) → stored.state ≡ s → cond (is_placed s) (Some p.version) None ≡ Some number → IsWaiting kind state i number
        by_state Settled s e = absurd (cc e)
        by_state Dead s e = absurd (cc e)
        by_state Placed s e =
            let same : p.version ≡ number = cc e in
            record {
              placing = p;
              at_row = there;
              kind_is = of;
              version = same;
              stored = stored;
              is = ap (stored_of state.store.versions) (sym same) ∙ known;
              state_is = s;
            }

    at : (o : Option Placing) → slice_get state.placings i ≡ o →
        option_and_then (λ placing. of_kind kind placing.kind (waiting_version state.store.versions placing)) o ≡ Some number → IsWaiting kind state i number
    at None there e = absurd (cc e)
    at (Some p) there e =
        let k = kind_some kind p.kind (waiting_version state.store.versions p) number e in
        from p there k.0 (stored_of state.store.versions p.version) refl k.1
