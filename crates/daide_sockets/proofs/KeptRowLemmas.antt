-- Which rows a call changes, and what that keeps.
use Rattle.std.proofs.Common.{◌≡◌, ℕ, zero, suc, ◌+◌, ◌≤◌, ◌<◌, Bool, true, false, List, [], ◌∷◌, length, refl, sym, ap, ◌∙◌, arith}
use Rattle.std.proofs.Common.{◌⊎◌, inl, inr, subst, Option, None}
use Rattle.std.specs.Prelude.{◌==◌, nat_lt, slice_get, slice_set}
use Rattle.std.specs.declared.time.Instant.{Instant}
use Rattle.daide_frame.specs.declared.side.Side.{Side}
use Rattle.daide_frame.specs.declared.side.Side.TheVariants.{Bot, Server}
use Rattle.daide_io.specs.ReadyQueue.{one_if, occurrences_of}
use Rattle.daide_sockets.specs.KeptRows.{ChangesRows, IsAcceptRow, IsFixedRow, IsRowOf, KeepsReportsOf}
use Rattle.daide_sockets.specs.Lingering.{ClosingStream}
use Rattle.daide_sockets.specs.Rows.{AreRowsOf, KeepsClosingRows, closing_keys, taken_at}
use Rattle.daide_sockets.specs.Table.{Table, changed, deadline_in, control_key, first_closing, forgotten, free_row, freed, key_of, listener_key, no_report, report_at, resting}
use Rattle.daide_sockets.specs.Table.{row_at, without_report, without_reports}
use Rattle.daide_sockets.specs.Wakeups.{KeepsOtherPlaces}
use Rattle.daide_sockets.specs.declared.table.Row.{Row}

-- ---- one row

row_other : (rows : List Row) (at key : ℕ) (row : Row) → (key ≡ at → ⊥) → row_at (changed rows at row) key ≡ row_at rows key
row_other [] at key row ne = refl
row_other (first ∷ rows) zero zero row ne = absurd (ne refl)
row_other (first ∷ rows) zero (suc key) row ne = refl
row_other (first ∷ rows) (suc at) zero row ne = refl
row_other (first ∷ rows) (suc at) (suc key) row ne = row_other rows at key row (λ e. ne (ap suc e))

row_taken : (rows : List Row) (at key : ℕ) (row : Row) → one_if row.is_taken ≤ one_if (row_at rows at).is_taken →
    one_if (row_at (changed rows at row) key).is_taken ≤ one_if (row_at rows key).is_taken
row_taken [] at key row h = omega arith
row_taken (first ∷ rows) zero zero row h = h
row_taken (first ∷ rows) zero (suc key) row h = omega arith
row_taken (first ∷ rows) (suc at) zero row h = omega arith
row_taken (first ∷ rows) (suc at) (suc key) row h = row_taken rows at key row h

row_count : (rows : List Row) (at : ℕ) (row : Row) → length (changed rows at row) ≡ length rows
row_count [] at row = refl
row_count (first ∷ rows) zero row = refl
row_count (first ∷ rows) (suc at) row = ap suc (row_count rows at row)

-- a row is freed, or its report is taken
pub freed_changes : (old new : Table) (key : ℕ) → new ≡ freed old key → ChangesRows (λ row. row ≡ key) old new
freed_changes old new key e = subst (ChangesRows (λ row. row ≡ key) old) (sym e) (record {
  others = λ row ne. row_other old.rows key row free_row ne;
  taken = λ row. row_taken old.rows key row free_row (omega arith);
  count = row_count old.rows key free_row;
  same = refl;
})

pub report_changes : (old new : Table) (key : ℕ) → new ≡ without_report old key → ChangesRows (λ row. row ≡ key) old new
report_changes old new key e =
    let cleared : Row = record (row_at old.rows key) { report = no_report } in
    subst (ChangesRows (λ row. row ≡ key) old) (sym e) (record {
      others = λ row ne. row_other old.rows key row cleared ne;
      taken = λ row. row_taken old.rows key row cleared (omega arith);
      count = row_count old.rows key cleared;
      same = refl;
    })

-- of a row whose report is taken, or that is freed, nothing is reported
pub report_cleared : (rows : List Row) (key : ℕ) →
    (row_at (changed rows key (record (row_at rows key) { report = no_report })) key).report ≡ no_report
report_cleared [] key = refl
report_cleared (first ∷ rows) zero = refl
report_cleared (first ∷ rows) (suc key) = report_cleared rows key

pub freed_unknown : (rows : List Row) (key : ℕ) → (row_at (changed rows key free_row) key).report ≡ no_report
freed_unknown [] key = refl
freed_unknown (first ∷ rows) zero = refl
freed_unknown (first ∷ rows) (suc key) = freed_unknown rows key

-- ---- several calls

pub changes_none : (own : ℕ → Type 0) (old new : Table) → new ≡ old → ChangesRows own old new
changes_none own old new e = subst (ChangesRows own old) (sym e) (record {
  others = λ key ne. refl;
  taken = λ key. omega arith;
  count = refl;
  same = refl;
})

pub changes_then : (own : ℕ → Type 0) (old mid new : Table) → ChangesRows own old mid → ChangesRows own mid new →
    ChangesRows own old new
changes_then own old mid new h k = record {
  others = λ key ne. k.others key ne ∙ h.others key ne;
  taken = λ key. let first = h.taken key in let second = k.taken key in omega (arith, first, second);
  count = k.count ∙ h.count;
  same = k.same ∙ ap (λ (t : Table). record t { rows = new.rows }) h.same;
}

pub changes_more : (own more : ℕ → Type 0) (old new : Table) → ((key : ℕ) → own key → more key) → ChangesRows own old new →
    ChangesRows more old new
changes_more own more old new wider h = record {
  others = λ key ne. h.others key (λ o. ne (wider key o));
  taken = h.taken;
  count = h.count;
  same = h.same;
}

-- ---- what they keep

pub same_deadlines : (own : ℕ → Type 0) (old new : Table) → ChangesRows own old new → new.deadlines ≡ old.deadlines
same_deadlines own old new h = ap (λ (t : Table). t.deadlines) h.same

pub same_reading : (own : ℕ → Type 0) (old new : Table) → ChangesRows own old new → new.reading ≡ old.reading
same_reading own old new h = ap (λ (t : Table). t.reading) h.same

pub keeps_report : (own : ℕ → Type 0) (old new : Table) (key : ℕ) → (own key → ⊥) → ChangesRows own old new →
    report_at new key ≡ report_at old key
keeps_report own old new key ne h = ap (λ (r : Row). r.report) (h.others key ne)

below_or_not : (key first : ℕ) → (key < first) ⊎ (first ≤ key)
below_or_not key first = by (nat_lt key first) refl
  where
    by : (b : Bool) → nat_lt key first ≡ b → (key < first) ⊎ (first ≤ key)
    by true e = inl (grind (arith, e))
    by false e = inr (grind (arith, e))

-- the rows of closing streams stay theirs
pub holds_rows : (own : ℕ → Type 0) (old new : Table) (keys : List ℕ) → ((key : ℕ) → own key → key < first_closing old) →
    ChangesRows own old new → AreRowsOf old keys → AreRowsOf new keys
holds_rows own old new keys below h rows = record {
  taken = λ key. by key (below_or_not key (first_closing old));
  beyond = λ key lt. rows.beyond key (subst (λ (n : ℕ). key < n) first lt);
  count = h.count ∙ rows.count ∙ sym (ap (λ (n : ℕ). n + 256) first);
}
  where
    first : first_closing new ≡ first_closing old
    first = ap (λ (t : Table). first_closing t) h.same

    by : (key : ℕ) → (key < first_closing old) ⊎ (first_closing old ≤ key) → taken_at new key ≡ occurrences_of key keys
    by key (inl lt) =
        let none = rows.beyond key lt in
        let before = rows.taken key in
        let less = h.taken key in
        omega (arith, none, before, less)
    by key (inr ge) =
        ap (λ (r : Row). one_if r.is_taken) (h.others key (λ o. absurd (let lt = below key o in omega (arith, lt, ge))))
        ∙ rows.taken key

pub apart : (place other : ℕ) → (place == other) ≡ false → place ≡ other → ⊥
apart place other e h = grind (arith, e, h)

-- the rows of two places differ
pub keys_apart : (place other : ℕ) (side at : Side) → (place == other) ≡ false → key_of other at ≡ key_of place side → ⊥
keys_apart place other Bot Bot e h = apart place other e (omega (arith, h))
keys_apart place other Bot Server e h = absurd (omega (arith, h))
keys_apart place other Server Bot e h = absurd (omega (arith, h))
keys_apart place other Server Server e h = apart place other e (omega (arith, h))

-- a table that read the clock again, with no closing stream
pub first_rows : {S : Type 0} (old new : Table) (streams : List (ClosingStream S)) → new ≡ record old { reading = new.reading } →
    streams ≡ [] → AreRowsOf old [] → AreRowsOf new (closing_keys streams)
first_rows old new streams e none rows =
    subst (λ (t : Table). AreRowsOf t (closing_keys streams)) (sym e)
    (subst (λ (l : List (ClosingStream _)). AreRowsOf (record old { reading = new.reading }) (closing_keys l)) (sym none)
    (record { taken = rows.taken; beyond = rows.beyond; count = rows.count }))

-- ---- other places

set_other : {X : Type 0} (xs : List X) (at key : ℕ) (x : X) → (at ≡ key → ⊥) → slice_get (slice_set xs at x) key ≡ slice_get xs key
set_other [] at key x ne = refl
set_other (first ∷ xs) zero zero x ne = absurd (ne refl)
set_other (first ∷ xs) zero (suc key) x ne = refl
set_other (first ∷ xs) (suc at) zero x ne = refl
set_other (first ∷ xs) (suc at) (suc key) x ne = set_other xs at key x (λ e. ne (ap suc e))

get_other : {X : Type 0} (xs : List X) (at key : ℕ) (x : X) → (at == key) ≡ false → slice_get (slice_set xs at x) key ≡ slice_get xs key
get_other xs at key x e = set_other xs at key x (apart at key e)

-- the rows and the deadlines of all places but one are the same
pub keeps_others : (old new : Table) (place : ℕ) →
    ((other : ℕ) (side : Side) → other < length old.deadlines → (place == other) ≡ false →
    row_at new.rows (key_of other side) ≡ row_at old.rows (key_of other side)) →
    ((other : ℕ) → (place == other) ≡ false → slice_get new.deadlines other ≡ slice_get old.deadlines other) →
    KeepsOtherPlaces old place new
keeps_others old new place rows deadlines other lt ne = record {
  reports = λ side. ap (λ (r : Row). r.report) (rows other side lt ne);
  deadline = ap (λ (d : Option (Option Instant)). deadline_in d) (deadlines other ne);
}

below_closing : (table : Table) (place : ℕ) (side : Side) → place < length table.deadlines → key_of place side < first_closing table
below_closing table place Bot lt = omega (arith, lt)
below_closing table place Server lt = omega (arith, lt)

-- rows of one place changed, and its deadline
pub place_changes : (old mid new : Table) (place : ℕ) (own : ℕ → Type 0) →
    ((other : ℕ) (side : Side) → other < length old.deadlines → (place == other) ≡ false → own (key_of other side) → ⊥) →
    ChangesRows own old mid → new.rows ≡ mid.rows →
    ((other : ℕ) → (place == other) ≡ false → slice_get new.deadlines other ≡ slice_get mid.deadlines other) →
    KeepsOtherPlaces old place new
place_changes old mid new place own apart h rows deadlines =
    keeps_others old new place
    (λ other side lt ne. ap (λ (r : List Row). row_at r (key_of other side)) rows ∙ h.others (key_of other side) (apart other side lt ne))
    (λ other ne. deadlines other ne ∙ ap (λ (t : Table). slice_get t.deadlines other) h.same)

-- a place rests, or its deadline is forgotten
pub rests_others : (table : Table) (place other : ℕ) (due : Option Instant) → (place == other) ≡ false →
    slice_get (resting table place due).deadlines other ≡ slice_get table.deadlines other
rests_others table place other due ne = get_other table.deadlines place other due ne

pub deadline_count : (xs : List (Option Instant)) (at : ℕ) (x : Option Instant) → length (slice_set xs at x) ≡ length xs
deadline_count [] at x = refl
deadline_count (y ∷ xs) zero x = refl
deadline_count (y ∷ xs) (suc at) x = ap suc (deadline_count xs at x)

-- the rows stay those of closing streams if no row is taken or freed, and there are as many places
pub same_holds : (old new : Table) (keys : List ℕ) → length new.deadlines ≡ length old.deadlines →
    length new.rows ≡ length old.rows →
    ((key : ℕ) → (row_at new.rows key).is_taken ≡ (row_at old.rows key).is_taken) → AreRowsOf old keys → AreRowsOf new keys
same_holds old new keys deadlines count taken rows = record {
  taken = λ key. ap one_if (taken key) ∙ rows.taken key;
  beyond = λ key lt. let below : key < first_closing old = omega (arith, lt, deadlines) in rows.beyond key below;
  count = let before = rows.count in omega (arith, before, count, deadlines);
}

pub forgot : (table : Table) (place : ℕ) (keys : List ℕ) → AreRowsOf table keys → AreRowsOf (forgotten table place) keys
forgot table place keys =
    same_holds table (forgotten table place) keys (deadline_count table.deadlines place None) refl (λ key. refl)

pub rested_holds : (old new : Table) (place : ℕ) (due : Option Instant) (keys : List ℕ) → new ≡ resting old place due →
    AreRowsOf old keys → AreRowsOf new keys
rested_holds old new place due keys e rows =
    subst (λ (t : Table). AreRowsOf t keys) (sym e)
    (same_holds old (resting old place due) keys (deadline_count old.deadlines place due) refl (λ key. refl) rows)

pub rested_places : (old new : Table) (place : ℕ) (due : Option Instant) → new ≡ resting old place due →
    length new.deadlines ≡ length old.deadlines
rested_places old new place due e = ap (λ (t : Table). length t.deadlines) e ∙ deadline_count old.deadlines place due

-- ---- an accept

pub row_below : (table : Table) (place key : ℕ) → IsRowOf table place key → key < listener_key table
row_below table place key (lt, (inl e)) = omega (arith, lt, e)
row_below table place key (lt, (inr e)) = omega (arith, lt, e)

pub accept_below : (table : Table) (place key : ℕ) → IsAcceptRow table place key → key < control_key table
accept_below table place key (inl e) = omega (arith, e)
accept_below table place key (inr own) = let lt = row_below table place key own in omega (arith, lt)

pub accept_beside : (old new : Table) (place : ℕ) → ChangesRows (IsAcceptRow old place) old new →
    KeepsReportsOf (λ key. control_key old ≤ key) old new
accept_beside old new place h key le =
    keeps_report (IsAcceptRow old place) old new key
    (λ own. absurd (let lt = accept_below old place key own in omega (arith, lt, le))) h

pub accept_holds : (old new : Table) (place : ℕ) (keys : List ℕ) → ChangesRows (IsAcceptRow old place) old new →
    AreRowsOf old keys → AreRowsOf new keys
accept_holds old new place keys h rows =
    holds_rows (IsAcceptRow old place) old new keys
    (λ key own. let lt = accept_below old place key own in omega (arith, lt)) h rows

not_accept : (table : Table) (place other : ℕ) (side : Side) → other < length table.deadlines → (place == other) ≡ false →
    IsAcceptRow table place (key_of other side) → ⊥
not_accept table place other Bot lt ne (inl e) = absurd (omega (arith, lt, e))
not_accept table place other Server lt ne (inl e) = absurd (omega (arith, lt, e))
not_accept table place other side lt ne (inr (has, (inl e))) = keys_apart place other Bot side ne e
not_accept table place other side lt ne (inr (has, (inr e))) = keys_apart place other Server side ne e

pub accept_others : (old new : Table) (place : ℕ) → ChangesRows (IsAcceptRow old place) old new → KeepsOtherPlaces old place new
accept_others old new place h =
    place_changes old new new place (IsAcceptRow old place) (not_accept old place) h refl (λ other ne. refl)

pub accept_only : (old new : Table) (place bot : ℕ) → place < length old.deadlines → bot ≡ key_of place Bot →
    ChangesRows (λ row. (row ≡ listener_key old) ⊎ (row ≡ bot)) old new → ChangesRows (IsAcceptRow old place) old new
accept_only old new place bot lt is_bot h = changes_more (λ row. (row ≡ listener_key old) ⊎ (row ≡ bot)) (IsAcceptRow old place) old new wider h
  where
    wider : (row : ℕ) → (row ≡ listener_key old) ⊎ (row ≡ bot) → IsAcceptRow old place row
    wider row (inl e) = inl e
    wider row (inr e) = inr (lt, inl (e ∙ is_bot))

-- an accept, and then a connect
pub accept_then : (old mid new : Table) (place bot server : ℕ) → place < length old.deadlines → bot ≡ key_of place Bot →
    server ≡ key_of place Server → ChangesRows (λ row. (row ≡ listener_key old) ⊎ (row ≡ bot)) old mid →
    ChangesRows (λ row. row ≡ server) mid new → ChangesRows (IsAcceptRow old place) old new
accept_then old mid new place bot server lt is_bot is_server h k =
    changes_then (IsAcceptRow old place) old mid new
    (accept_only old mid place bot lt is_bot h)
    (changes_more (λ row. row ≡ server) (IsAcceptRow old place) mid new (λ row e. inr (lt, inr (e ∙ is_server))) k)

-- ---- a connect

pub connect_others : (old mid new : Table) (place key : ℕ) (due : Option Instant) → key ≡ key_of place Server →
    ChangesRows (λ row. row ≡ key) old mid → new ≡ resting mid place due → KeepsOtherPlaces old place new
connect_others old mid new place key due is h e =
    place_changes old mid new place (λ row. row ≡ key)
    (λ other side lt ne own. keys_apart place other Server side ne (own ∙ is)) h (ap (λ (t : Table). t.rows) e)
    (λ other ne. ap (λ (t : Table). slice_get t.deadlines other) e ∙ rests_others mid place other due ne)

pub connect_kept : (old new : Table) (place key : ℕ) → key ≡ key_of place Server → ChangesRows (λ row. row ≡ key) old new →
    KeepsOtherPlaces old place new
connect_kept old new place key is h =
    place_changes old new new place (λ row. row ≡ key)
    (λ other side lt ne own. keys_apart place other Server side ne (own ∙ is)) h refl (λ other ne. refl)

-- the row of the bot, and the rows beside the places, keep their reports
pub connect_bot : (old new : Table) (place key : ℕ) → key ≡ key_of place Server → ChangesRows (λ row. row ≡ key) old new →
    report_at new (key_of place Bot) ≡ report_at old (key_of place Bot)
connect_bot old new place key is h =
    keeps_report (λ row. row ≡ key) old new (key_of place Bot) (λ own. absurd (omega (arith, own, is))) h

pub connect_beside : (old new : Table) (place key : ℕ) → place < length old.deadlines → key ≡ key_of place Server →
    ChangesRows (λ row. row ≡ key) old new → KeepsReportsOf (λ key. listener_key old ≤ key) old new
connect_beside old new place key lt is h row le =
    keeps_report (λ row. row ≡ key) old new row (λ own. absurd (omega (arith, own, is, lt, le))) h

pub connect_holds : (old new : Table) (place key : ℕ) (keys : List ℕ) → place < length old.deadlines → key ≡ key_of place Server →
    ChangesRows (λ row. row ≡ key) old new → AreRowsOf old keys → AreRowsOf new keys
connect_holds old new place key keys lt is h rows =
    holds_rows (λ row. row ≡ key) old new keys (λ row own. omega (arith, own, is, lt)) h rows

-- the deadline of a place that rests
pub rests_until : (deadlines : List (Option Instant)) (place : ℕ) (due : Option Instant) → place < length deadlines →
    deadline_in (slice_get (slice_set deadlines place due) place) ≡ due
rests_until [] place due lt = absurd (omega (arith, lt))
rests_until (first ∷ deadlines) zero due lt = refl
rests_until (first ∷ deadlines) (suc place) due lt = rests_until deadlines place due (omega (arith, lt))

-- ---- the reports of a place are taken

abbrev IsOwn : ℕ → ℕ → Type 0
IsOwn place row = (row ≡ key_of place Bot) ⊎ (row ≡ key_of place Server)

pub reports_change : (old new : Table) (place : ℕ) → new ≡ without_reports old place → ChangesRows (IsOwn place) old new
reports_change old new place e =
    let mid = without_report old (key_of place Bot) in
    subst (ChangesRows (IsOwn place) old) (sym e)
    (changes_then (IsOwn place) old mid (without_reports old place)
    (changes_more (λ row. row ≡ key_of place Bot) (IsOwn place) old mid (λ row is. inl is) (report_changes old mid (key_of place Bot) refl))
    (changes_more (λ row. row ≡ key_of place Server) (IsOwn place) mid (without_reports old place) (λ row is. inr is)
    (report_changes mid (without_reports old place) (key_of place Server) refl)))

stays_taken : (rows : List Row) (at key : ℕ) →
    (row_at (changed rows at (record (row_at rows at) { report = no_report })) key).is_taken ≡ (row_at rows key).is_taken
stays_taken [] at key = refl
stays_taken (first ∷ rows) zero zero = refl
stays_taken (first ∷ rows) zero (suc key) = refl
stays_taken (first ∷ rows) (suc at) zero = refl
stays_taken (first ∷ rows) (suc at) (suc key) = stays_taken rows at key

pub reports_hold : (old new : Table) (place : ℕ) (keys : List ℕ) → new ≡ without_reports old place → AreRowsOf old keys →
    AreRowsOf new keys
reports_hold old new place keys e rows =
    let mid = without_report old (key_of place Bot) in
    subst (λ (t : Table). AreRowsOf t keys) (sym e)
    (same_holds mid (without_reports old place) keys refl
    (row_count mid.rows (key_of place Server) (record (row_at mid.rows (key_of place Server)) { report = no_report }))
    (λ key. stays_taken mid.rows (key_of place Server) key)
    (same_holds old mid keys refl
    (row_count old.rows (key_of place Bot) (record (row_at old.rows (key_of place Bot)) { report = no_report }))
    (λ key. stays_taken old.rows (key_of place Bot) key) rows))

own_below : (table : Table) (place row : ℕ) → place < length table.deadlines → IsOwn place row → row < listener_key table
own_below table place row lt (inl e) = omega (arith, lt, e)
own_below table place row lt (inr e) = omega (arith, lt, e)

-- a turn keeps what was reported beside the places
pub turn_beside : (old new : Table) (place : ℕ) → new ≡ without_reports old place → place < length old.deadlines →
    KeepsReportsOf (λ key. listener_key old ≤ key) old new
turn_beside old new place e lt key le =
    keeps_report (IsOwn place) old new key (λ own. absurd (let below = own_below old place key lt own in omega (arith, below, le)))
    (reports_change old new place e)

-- ---- sockets of a session begin to close

module _ (old new : Table) (place : ℕ) (given left : List ℕ)
    (h : KeepsClosingRows (without_reports (forgotten old place) place) given new left) (rows : AreRowsOf old given) where
  abbrev quiet : Table
  quiet = without_reports (forgotten old place) place

  quiet_holds : AreRowsOf quiet given
  quiet_holds = reports_hold (forgotten old place) quiet place given refl (forgot old place given rows)

  quiet_changes : ChangesRows (IsOwn place) (forgotten old place) quiet
  quiet_changes = reports_change (forgotten old place) quiet place refl

  pub retire_holds : AreRowsOf new left
  retire_holds = h.taken quiet_holds

  count : length quiet.deadlines ≡ length old.deadlines
  count = ap (λ (t : Table). length t.deadlines) quiet_changes.same ∙ deadline_count old.deadlines place None

  row_kept : (key : ℕ) → key < first_closing old → (IsOwn place key → ⊥) → row_at new.rows key ≡ row_at old.rows key
  row_kept key lt own = h.others quiet_holds key (omega (arith, lt, count)) ∙ quiet_changes.others key own

  not_own : (other : ℕ) (side : Side) → (place == other) ≡ false → IsOwn place (key_of other side) → ⊥
  not_own other side ne (inl e) = keys_apart place other Bot side ne e
  not_own other side ne (inr e) = keys_apart place other Server side ne e

  pub retire_others : KeepsOtherPlaces old place new
  retire_others = keeps_others old new place
      (λ other side lt ne. row_kept (key_of other side) (below_closing old other side lt) (not_own other side ne))
      (λ other ne. ap (λ (t : Table). slice_get t.deadlines other) h.same
      ∙ ap (λ (t : Table). slice_get t.deadlines other) quiet_changes.same ∙ get_other old.deadlines place other None ne)

  pub retire_beside : place < length old.deadlines → KeepsReportsOf (IsFixedRow old) old new
  retire_beside lt key fixed =
      ap (λ (r : Row). r.report) (row_kept key fixed.1 (λ own. absurd (let below = own_below old place key lt own in
      let from = fixed.0 in omega (arith, below, from))))

  pub retire_places : length new.deadlines ≡ length old.deadlines
  retire_places = ap (λ (t : Table). length t.deadlines) h.same ∙ count

-- the bot of a connect that failed begins to close
module _ (old mid new : Table) (place key : ℕ) (given left : List ℕ) (lt : place < length old.deadlines)
    (is : key ≡ key_of place Server) (connects : ChangesRows (λ row. row ≡ key) old mid)
    (h : KeepsClosingRows (forgotten mid place) given new left) (rows : AreRowsOf old given) where
  mid_holds : AreRowsOf mid given
  mid_holds = connect_holds old mid place key given lt is connects rows

  forgotten_holds : AreRowsOf (forgotten mid place) given
  forgotten_holds = forgot mid place given mid_holds

  pub failed_holds : AreRowsOf new left
  failed_holds = h.taken forgotten_holds

  mid_count : length (forgotten mid place).deadlines ≡ length old.deadlines
  mid_count = deadline_count mid.deadlines place None ∙ ap (λ (t : Table). length t.deadlines) connects.same

  failed_row : (row : ℕ) → row < first_closing old → (row ≡ key → ⊥) → row_at new.rows row ≡ row_at old.rows row
  failed_row row lt own = h.others forgotten_holds row (omega (arith, lt, mid_count)) ∙ connects.others row own

  pub failed_others : KeepsOtherPlaces old place new
  failed_others = keeps_others old new place
      (λ other side few ne. failed_row (key_of other side) (below_closing old other side few)
      (λ own. keys_apart place other Server side ne (own ∙ is)))
      (λ other ne. ap (λ (t : Table). slice_get t.deadlines other) h.same ∙ get_other mid.deadlines place other None ne
      ∙ ap (λ (t : Table). slice_get t.deadlines other) connects.same)

  pub failed_beside : KeepsReportsOf (IsFixedRow old) old new
  failed_beside row fixed =
      ap (λ (r : Row). r.report) (failed_row row fixed.1 (λ own. absurd (let from = fixed.0 in omega (arith, own, is, lt, from))))

  pub failed_places : length new.deadlines ≡ length old.deadlines
  failed_places = ap (λ (t : Table). length t.deadlines) h.same ∙ mid_count
