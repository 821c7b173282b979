-- Bytes are refused once.
use Rattle.std.proofs.Common.{append_assoc, append-nil, arith, ◌≡◌, refl, sym, ◌∙◌, ap, subst, ℕ, ◌+◌, false, List, [], ◌∷◌, ◌++◌, length, Ok, Err, inl, inr}
use Rattle.std.specs.Prelude.{◌⊎◌, not, nat_le, ◌&&◌}
use Rattle.pg_lexer.proofs.Lists.{aligned}
use Rattle.pg_model.specs.declared.script.Mode.{Mode}
use Rattle.pg_model.specs.Limits.{most_sessions}
use Rattle.pg_line.specs.declared.form.LineForm.{LineForm}
use Rattle.pg_line.specs.declared.form.LineForm.TheVariants as form
use Rattle.pg_line.specs.declared.form.PlaceFault.{PlaceFault}
use Rattle.pg_line.specs.declared.form.SessionName.{SessionName}
use Rattle.pg_line.specs.Forms.{IsFormOf}
use Rattle.pg_line.specs.Laws.{IsSameFault, IsSameForm}
use Rattle.pg_line.proofs.Outcomes.{at_most_one_form}
use Rattle.pg_script.specs.declared.fault.Reason.{Reason}
use Rattle.pg_script.specs.declared.fault.Reason.TheVariants as reason
use Rattle.pg_script.specs.Built.{is_later}
use Rattle.pg_script.specs.Bytes.{lines_in}
use Rattle.pg_script.specs.Headings.{Heading}
use Rattle.pg_script.specs.Laws.{BytesAreRefusedOnce, IsSameReason}
use Rattle.pg_script.specs.Parts.{session_names, sessions_of}
use Rattle.pg_script.specs.Reading.{AreForms, IsFirstRefused}
use Rattle.pg_script.specs.Reasons.{has_many_sessions, is_free, is_late_setup, is_misplaced, is_unknown, name_reasons, orders_steps, reason_of_place, reasons_of, when}
use Rattle.pg_script.proofs.Held.{sessions_more}
use Rattle.pg_script.proofs.OneReading.{are_same, front_header, not_fine, same, same_list}

-- the reasons before those of a place
abbrev early : Mode → List LineForm → LineForm → List Reason
early mode before line =
    when (is_later line) reason.Later
    ++ when (is_unknown line) reason.Line
    ++ when (is_free mode && orders_steps line) reason.Free
    ++ when (is_late_setup before line) reason.Order
    ++ when (has_many_sessions (before ++ line ∷ [])) reason.Sessions
    ++ when (is_misplaced line) reason.Place

-- the first of some reasons, with one of two behind them
heads : (front xs ys others more : List Reason) (x y a b : Reason) → front ++ x ∷ xs ≡ a ∷ others →
    front ++ y ∷ ys ≡ b ∷ more → (a ≡ b) ⊎ ((a ≡ x) × (b ≡ y))
heads [] xs ys others more x y a b one other = inr (cc, cc)
heads (z ∷ front) xs ys others more x y a b one other = inl (cc)

first_same : (reasons others more : List Reason) (a b : Reason) → reasons ≡ a ∷ others → reasons ≡ b ∷ more → a ≡ b
first_same reasons others more a b one other = cc

many_same : (before : List LineForm) (a b : LineForm) → session_names a ≡ session_names b →
    has_many_sessions (before ++ a ∷ []) ≡ has_many_sessions (before ++ b ∷ [])
many_same before a b is =
    ap (λ names. not (nat_le (length names) most_sessions))
    (sessions_more before a ∙ ap (Rattle.pg_script.specs.Drafts.with_names (sessions_of before)) is ∙ sym (sessions_more before b))

-- where the forms are the same, so is the first reason
by_equal : (mode : Mode) (before : List LineForm) (a b : LineForm) (others more : List Reason) (why other : Reason) →
    a ≡ b → reasons_of mode before a ≡ why ∷ others → reasons_of mode before b ≡ other ∷ more → IsSameReason why other
by_equal mode before a b others more why other is one two =
    inl (first_same (reasons_of mode before b) others more why other (sym (ap (reasons_of mode before) is) ∙ one) two)

-- where only their faults are told apart by the grammar, so is the first reason
by_fault : (front xs ys others more : List Reason) (f g : PlaceFault) (why other : Reason) → IsSameFault f g →
    xs ≡ front ++ reason_of_place f ∷ [] → ys ≡ front ++ reason_of_place g ∷ [] → xs ≡ why ∷ others → ys ≡ other ∷ more →
    IsSameReason why other
by_fault front xs ys others more f g why other is first second one two =
    at (heads front [] [] others more (reason_of_place f) (reason_of_place g) why other (sym first ∙ one) (sym second ∙ two)) is
  where
    at : (why ≡ other) ⊎ ((why ≡ reason_of_place f) × (other ≡ reason_of_place g)) → IsSameFault f g → IsSameReason why other
    at (inl e) equal = inl e
    at (inr e) (inl equal) = inl (e.0 ∙ ap reason_of_place equal ∙ sym e.1)
    at (inr e) (inr (inl w)) = inr (inl (w.0, e.0 ∙ ap reason_of_place w.1, e.1 ∙ ap reason_of_place w.2))
    at (inr e) (inr (inr w)) = inr (inr (w.0, e.0 ∙ ap reason_of_place w.1, e.1 ∙ ap reason_of_place w.2))

setup_same : (mode : Mode) (before : List LineForm) (f g : PlaceFault) →
    early mode before (form.Setup (Err f)) ≡ early mode before (form.Setup (Err g))
setup_same mode before f g =
    ap
    (λ many.
    [] ++ [] ++ when (is_free mode && false) reason.Free
    ++ when (is_late_setup before (form.Setup (Err g))) reason.Order ++ when many reason.Sessions ++ [])
    (many_same before (form.Setup (Err f)) (form.Setup (Err g)) refl)

given_same : (mode : Mode) (before : List LineForm) (session : SessionName) (f g : PlaceFault) →
    early mode before (form.Given session (Err f)) ≡ early mode before (form.Given session (Err g))
given_same mode before session f g =
    ap
    (λ many.
    when (is_later (form.Given session (Err g))) reason.Later ++ [] ++ when (is_free mode && false) reason.Free
    ++ when (is_late_setup before (form.Given session (Err g))) reason.Order ++ when many reason.Sessions ++ [])
    (many_same before (form.Given session (Err f)) (form.Given session (Err g)) refl)

setup_reasons_are : (mode : Mode) (before : List LineForm) (f : PlaceFault) →
    reasons_of mode before (form.Setup (Err f)) ≡ early mode before (form.Setup (Err f)) ++ reason_of_place f ∷ []
setup_reasons_are mode before f = append-nil _

given_reasons_are : (mode : Mode) (before : List LineForm) (session : SessionName) (f : PlaceFault) →
    reasons_of mode before (form.Given session (Err f))
    ≡ (early mode before (form.Given session (Err f)) ++ name_reasons session) ++ reason_of_place f ∷ []
given_reasons_are mode before session f =
    append-nil _ ∙ sym (append_assoc (early mode before (form.Given session (Err f))) (name_reasons session) (reason_of_place f ∷ []))

reason_same : (mode : Mode) (before : List LineForm) (a b : LineForm) (others more : List Reason) (why other : Reason) →
    IsSameForm a b → reasons_of mode before a ≡ why ∷ others → reasons_of mode before b ≡ other ∷ more →
    IsSameReason why other
reason_same mode before (form.Setup (Err f)) (form.Setup (Err g)) others more why other is one two =
    by_fault (early mode before (form.Setup (Err f))) _ _ others more f g why other is (setup_reasons_are mode before f)
    (setup_reasons_are mode before g ∙ ap (λ e. e ++ reason_of_place g ∷ []) (sym (setup_same mode before f g))) one two
reason_same mode before (form.Setup (Err f)) (form.Setup (Ok tree)) others more why other is one two = absurd is
reason_same mode before (form.Setup (Err f)) form.Comment others more why other is one two =
    by_equal mode before _ _ others more why other is one two
reason_same mode before (form.Setup (Err f)) (form.Given session given) others more why other is one two =
    by_equal mode before _ _ others more why other is one two
reason_same mode before (form.Setup (Err f)) (form.Pause session label) others more why other is one two =
    by_equal mode before _ _ others more why other is one two
reason_same mode before (form.Setup (Err f)) (form.Go session) others more why other is one two =
    by_equal mode before _ _ others more why other is one two
reason_same mode before (form.Setup (Err f)) (form.Cut session) others more why other is one two =
    by_equal mode before _ _ others more why other is one two
reason_same mode before (form.Setup (Err f)) form.Unknown others more why other is one two =
    by_equal mode before _ _ others more why other is one two
reason_same mode before (form.Given session (Err f)) (form.Given another (Err g)) others more why other is one two =
    by_fault (early mode before (form.Given session (Err f)) ++ name_reasons session) _ _ others more f g why other is.1
    (given_reasons_are mode before session f)
    (subst
    (λ s. reasons_of mode before (form.Given s (Err g))
    ≡ (early mode before (form.Given session (Err f)) ++ name_reasons session) ++ reason_of_place g ∷ [])
    is.0
    (given_reasons_are mode before session g
    ∙ ap (λ e. (e ++ name_reasons session) ++ reason_of_place g ∷ []) (sym (given_same mode before session f g)))) one two
reason_same mode before (form.Given session (Err f)) (form.Given another (Ok tree)) others more why other is one two =
    absurd is.1
reason_same mode before (form.Given session (Err f)) form.Comment others more why other is one two =
    by_equal mode before _ _ others more why other is one two
reason_same mode before (form.Given session (Err f)) (form.Setup given) others more why other is one two =
    by_equal mode before _ _ others more why other is one two
reason_same mode before (form.Given session (Err f)) (form.Pause another label) others more why other is one two =
    by_equal mode before _ _ others more why other is one two
reason_same mode before (form.Given session (Err f)) (form.Go another) others more why other is one two =
    by_equal mode before _ _ others more why other is one two
reason_same mode before (form.Given session (Err f)) (form.Cut another) others more why other is one two =
    by_equal mode before _ _ others more why other is one two
reason_same mode before (form.Given session (Err f)) form.Unknown others more why other is one two =
    by_equal mode before _ _ others more why other is one two
reason_same mode before (form.Setup (Ok tree)) b others more why other is one two =
    by_equal mode before _ b others more why other (same (form.Setup (Ok tree)) b tt is) one two
reason_same mode before (form.Given session (Ok tree)) b others more why other is one two =
    by_equal mode before _ b others more why other (same (form.Given session (Ok tree)) b tt is) one two
reason_same mode before form.Comment b others more why other is one two =
    by_equal mode before _ b others more why other is one two
reason_same mode before (form.Pause session label) b others more why other is one two =
    by_equal mode before _ b others more why other is one two
reason_same mode before (form.Go session) b others more why other is one two =
    by_equal mode before _ b others more why other is one two
reason_same mode before (form.Cut session) b others more why other is one two =
    by_equal mode before _ b others more why other is one two
reason_same mode before form.Unknown b others more why other is one two =
    by_equal mode before _ b others more why other is one two

-- two lines that are refused behind the same lines are one line, refused for one reason
same_place : (lines before : List (List ℕ)) (m n : ℕ) (a b : Reason) (one : IsFirstRefused lines m a)
    (other : IsFirstRefused lines n b) → other.before ≡ one.before → one.line ≡ other.line →
    (m ≡ n) × IsSameReason a b
same_place lines before m n a b one other front line =
    let is =
    are_same one.before one.heading other.heading one.forms other.forms one.are one.fine
    (subst (λ ls. AreForms ls other.heading other.forms) front other.are) in
    let forms =
    at_most_one_form other.heading.version other.line one.form other.form
    (subst (λ (h : Heading). IsFormOf h.version other.line one.form) is.heading
    (subst (λ l. IsFormOf one.heading.version l one.form) line one.formed)) other.formed in (
      one.number_is ∙ ap (λ ls. length ls + 1) (sym front) ∙ sym other.number_is,
      reason_same other.heading.mode other.forms one.form other.form one.others other.others a b forms
          (subst (λ (h : Heading). reasons_of h.mode other.forms one.form ≡ a ∷ one.others) is.heading
          (subst (λ fs. reasons_of one.heading.mode fs one.form ≡ a ∷ one.others) is.forms one.reasons)) other.reasons,
    )

lines_refused : (lines : List (List ℕ)) (m n : ℕ) (a b : Reason) → IsFirstRefused lines m a → IsFirstRefused lines n b →
    (m ≡ n) × IsSameReason a b
lines_refused lines m n a b one other =
    at (aligned one.before other.before (one.line ∷ one.after) (other.line ∷ other.after) (sym one.split ∙ other.split))
  where
    later : (more rest : List (List ℕ)) → other.before ≡ one.before ++ more → one.line ∷ one.after ≡ more ++ rest →
        rest ≡ other.line ∷ other.after → (m ≡ n) × IsSameReason a b
    later [] rest front behind is =
        let rows = same_list _ _ _ _ (behind ∙ is) in
        same_place lines one.before m n a b one other (front ∙ append-nil one.before) rows.0
    later (l ∷ more) rest front behind is =
        let rows = same_list _ _ _ _ behind in
        absurd (not_fine other.before lines other.heading other.forms m a one other.are other.fine more
        (front ∙ ap (λ x. one.before ++ x ∷ more) (sym rows.0)))

    earlier : (more rest : List (List ℕ)) → one.before ≡ other.before ++ more → other.line ∷ other.after ≡ more ++ rest →
        rest ≡ one.line ∷ one.after → (m ≡ n) × IsSameReason a b
    earlier [] rest front behind is =
        let rows = same_list _ _ _ _ (behind ∙ is) in
        same_place lines one.before m n a b one other (sym (front ∙ append-nil other.before)) (sym rows.0)
    earlier (l ∷ more) rest front behind is =
        let rows = same_list _ _ _ _ behind in
        absurd (not_fine one.before lines one.heading one.forms n b other one.are one.fine more
        (front ∙ ap (λ x. other.before ++ x ∷ more) (sym rows.0)))

    at : ((more : List (List ℕ)) × (other.before ≡ one.before ++ more) × (one.line ∷ one.after ≡ more ++ (other.line ∷ other.after)))
        ⊎ ((more : List (List ℕ)) × (one.before ≡ other.before ++ more) × (other.line ∷ other.after ≡ more ++ (one.line ∷ one.after))) →
        (m ≡ n) × IsSameReason a b
    at (inl cut) = later cut.0 (other.line ∷ other.after) cut.1 cut.2 refl
    at (inr cut) = earlier cut.0 (one.line ∷ one.after) cut.1 cut.2 refl

pub bytes_are_refused_once : BytesAreRefusedOnce
bytes_are_refused_once bytes m n a b (inl one) (inl other) = (one.1 ∙ sym other.1, inl (one.2 ∙ sym other.2))
bytes_are_refused_once bytes m n a b (inl one) (inr (inl other)) =
    absurd (let over = one.0 in let size = other.0 in omega (arith, over, size))
bytes_are_refused_once bytes m n a b (inl one) (inr (inr other)) =
    absurd (let over = one.0 in let size = other.0 in omega (arith, over, size))
bytes_are_refused_once bytes m n a b (inr (inl one)) (inl other) =
    absurd (let size = one.0 in let over = other.0 in omega (arith, over, size))
bytes_are_refused_once bytes m n a b (inr (inr one)) (inl other) =
    absurd (let size = one.0 in let over = other.0 in omega (arith, over, size))
bytes_are_refused_once bytes m n a b (inr (inl one)) (inr (inl other)) = (one.2 ∙ sym other.2, inl (one.3 ∙ sym other.3))
bytes_are_refused_once bytes m n a b (inr (inl one)) (inr (inr other)) = absurd (front_header (lines_in bytes) n b one.1 other.1)
bytes_are_refused_once bytes m n a b (inr (inr one)) (inr (inl other)) = absurd (front_header (lines_in bytes) m a other.1 one.1)
bytes_are_refused_once bytes m n a b (inr (inr one)) (inr (inr other)) = lines_refused (lines_in bytes) m n a b one.1 other.1
