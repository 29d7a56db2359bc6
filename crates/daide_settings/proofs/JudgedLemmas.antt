-- A document has no fault exactly if it gives settings.
use Rattle.std.proofs.Common.{is_none, is_ok, if◌then◌else◌}
use Rattle.std.specs.Result.{result_err}
use Rattle.daide_settings.proofs.Common.{◌≡◌, ◌&&◌, ℕ, Bool, true, false, List, Option, Some, None, Result, Ok, Err}
use Rattle.daide_settings.proofs.Common.{refl, Members, get_member, Word, Listen, Server, TopLevel, MaxBody, MaxDepth}
use Rattle.daide_settings.proofs.Common.{ImSeconds, MaxSessions, Sessions, Turns, IdleSeconds, Words, StallSeconds}
use Rattle.daide_settings.proofs.Common.{Endless, Allow, MaxPerAddress, MaxRefused, Control, AddressRange, SettingsError, Unknown}
use Rattle.daide_settings.proofs.Common.{Given, key_text, address_of, read_number, read_flag, read_text, then_with}
use Rattle.daide_settings.proofs.Common.{keys_judged, judged_members, judged_settings, has_only_known, words_judged}
use Rattle.daide_settings.specs.Ranges.{allow_judged}
use Rattle.daide_settings.specs.Judged.{keys_are_right, is_right, is_right_document}

abbrev right : {A : Type 0} → Result A SettingsError → Bool
right checked = is_none (result_err checked)

-- no check of a chain has a fault exactly if the chain ends well
chain :
    (a : Result (List ℕ) SettingsError) (b : Result (List ℕ) SettingsError) (c : Result ℕ SettingsError)
    (d : Result ℕ SettingsError) (e : Result ℕ SettingsError) (f : Result ℕ SettingsError) (g : Result ℕ SettingsError)
    (h : Result ℕ SettingsError) (i : Result ℕ SettingsError) (j : Result ℕ SettingsError) (k : Result (List Word) SettingsError)
    (l : Result ℕ SettingsError) (m : Result Bool SettingsError) (n : Result (List AddressRange) SettingsError)
    (o : Result ℕ SettingsError) (p : Result ℕ SettingsError) (q : Result (Option (List ℕ)) SettingsError) →
    (right a && (right b && (right c && (right d && (right e && (right f && (right g && (right h && (right i && (right j && (right k && (right l && (right m && (right n && (right o && (right p && (right q && true)))))))))))))))))
    ≡ is_ok {T = Given} (
    then_with a (λ listen.
    then_with b (λ server.
    then_with c (λ top_level.
    then_with d (λ max_body.
    then_with e (λ max_depth.
    then_with f (λ im_seconds.
    then_with g (λ max_sessions.
    then_with h (λ sessions.
    then_with i (λ turns.
    then_with j (λ idle_seconds.
    then_with k (λ words.
    then_with l (λ stall_seconds.
    then_with m (λ endless.
    then_with n (λ allow.
    then_with o (λ max_per_address.
    then_with p (λ max_refused.
    then_with q (λ control.
    Ok (record {
      listen = listen;
      server = server;
      top_level = top_level;
      max_body = max_body;
      max_depth = max_depth;
      im_seconds = im_seconds;
      max_sessions = max_sessions;
      sessions = sessions;
      turns = turns;
      idle_seconds = idle_seconds;
      words = words;
      stall_seconds = stall_seconds;
      endless = endless;
      allow = allow;
      max_per_address = max_per_address;
      max_refused = max_refused;
      control = control;
    })))))))))))))))))))
chain (Err fault) _ _ _ _ _ _ _ _ _ _ _ _ _ _ _ _ = refl
chain (Ok a) (Err fault) _ _ _ _ _ _ _ _ _ _ _ _ _ _ _ = refl
chain (Ok a) (Ok b) (Err fault) _ _ _ _ _ _ _ _ _ _ _ _ _ _ = refl
chain (Ok a) (Ok b) (Ok c) (Err fault) _ _ _ _ _ _ _ _ _ _ _ _ _ = refl
chain (Ok a) (Ok b) (Ok c) (Ok d) (Err fault) _ _ _ _ _ _ _ _ _ _ _ _ = refl
chain (Ok a) (Ok b) (Ok c) (Ok d) (Ok e) (Err fault) _ _ _ _ _ _ _ _ _ _ _ = refl
chain (Ok a) (Ok b) (Ok c) (Ok d) (Ok e) (Ok f) (Err fault) _ _ _ _ _ _ _ _ _ _ = refl
chain (Ok a) (Ok b) (Ok c) (Ok d) (Ok e) (Ok f) (Ok g) (Err fault) _ _ _ _ _ _ _ _ _ = refl
chain (Ok a) (Ok b) (Ok c) (Ok d) (Ok e) (Ok f) (Ok g) (Ok h) (Err fault) _ _ _ _ _ _ _ _ = refl
chain (Ok a) (Ok b) (Ok c) (Ok d) (Ok e) (Ok f) (Ok g) (Ok h) (Ok i) (Err fault) _ _ _ _ _ _ _ = refl
chain (Ok a) (Ok b) (Ok c) (Ok d) (Ok e) (Ok f) (Ok g) (Ok h) (Ok i) (Ok j) (Err fault) _ _ _ _ _ _ = refl
chain (Ok a) (Ok b) (Ok c) (Ok d) (Ok e) (Ok f) (Ok g) (Ok h) (Ok i) (Ok j) (Ok k) (Err fault) _ _ _ _ _ = refl
chain (Ok a) (Ok b) (Ok c) (Ok d) (Ok e) (Ok f) (Ok g) (Ok h) (Ok i) (Ok j) (Ok k) (Ok l) (Err fault) _ _ _ _ = refl
chain (Ok a) (Ok b) (Ok c) (Ok d) (Ok e) (Ok f) (Ok g) (Ok h) (Ok i) (Ok j) (Ok k) (Ok l) (Ok m) (Err fault) _ _ _ = refl
chain (Ok a) (Ok b) (Ok c) (Ok d) (Ok e) (Ok f) (Ok g) (Ok h) (Ok i) (Ok j) (Ok k) (Ok l) (Ok m) (Ok n) (Err fault) _ _ = refl
chain (Ok a) (Ok b) (Ok c) (Ok d) (Ok e) (Ok f) (Ok g) (Ok h) (Ok i) (Ok j) (Ok k) (Ok l) (Ok m) (Ok n) (Ok o) (Err fault) _ = refl
chain (Ok a) (Ok b) (Ok c) (Ok d) (Ok e) (Ok f) (Ok g) (Ok h) (Ok i) (Ok j) (Ok k) (Ok l) (Ok m) (Ok n) (Ok o) (Ok p) (Err fault) = refl
chain (Ok a) (Ok b) (Ok c) (Ok d) (Ok e) (Ok f) (Ok g) (Ok h) (Ok i) (Ok j) (Ok k) (Ok l) (Ok m) (Ok n) (Ok o) (Ok p) (Ok q) = refl

keys_right : (members : Members) → keys_are_right members ≡ is_ok (keys_judged members)
keys_right members =
    chain
    (address_of Listen (get_member (key_text Listen) members))
    (address_of Server (get_member (key_text Server) members))
    (read_number TopLevel (get_member (key_text TopLevel) members))
    (read_number MaxBody (get_member (key_text MaxBody) members))
    (read_number MaxDepth (get_member (key_text MaxDepth) members))
    (read_number ImSeconds (get_member (key_text ImSeconds) members))
    (read_number MaxSessions (get_member (key_text MaxSessions) members))
    (read_number Sessions (get_member (key_text Sessions) members))
    (read_number Turns (get_member (key_text Turns) members))
    (read_number IdleSeconds (get_member (key_text IdleSeconds) members))
    (words_judged (get_member (key_text Words) members))
    (read_number StallSeconds (get_member (key_text StallSeconds) members))
    (read_flag Endless (get_member (key_text Endless) members))
    (allow_judged (get_member (key_text Allow) members))
    (read_number MaxPerAddress (get_member (key_text MaxPerAddress) members))
    (read_number MaxRefused (get_member (key_text MaxRefused) members))
    (read_text Control (get_member (key_text Control) members))

pub members_right : (members : Members) → is_right members ≡ is_ok (judged_members members)
unfolding judged_members
members_right members = go (has_only_known members)
  where
    go : (known : Bool) → (known && keys_are_right members) ≡ is_ok (if known then keys_judged members else Err Unknown)
    go true = keys_right members
    go false = refl

pub document_right : (document : Option Members) → is_right_document document ≡ is_ok (judged_settings document)
document_right None = refl
document_right (Some members) = members_right members
