-- The record with which a session begins, by the folder of its run.
use Rattle.std.proofs.Common.{◌≡◌, ◌⊎◌, ◌∙◌, Option, Some, None, inl, inr, ap, sym, subst}
use Rattle.std.specs.Borrow.{Bor}
use Rattle.daide_words.specs.declared.words.Words.{Words}
use Rattle.daide_words.specs.Words.{words_of}
use Rattle.daide_protocol.specs.declared.config.Config.{Config}
use Rattle.daide_settings.specs.declared.settings.Settings.{Settings}
use Rattle.daide_log.specs.Recording.{Recorded, no_record}
use Rattle.daide_log.specs.declared.moment.Moment.{Moment}
use Rattle.daide_sockets.specs.declared.ports.SocketPorts.{SocketPorts}
use Rattle.daide_sockets.specs.declared.present.Bot.{Bot}
use Rattle.daide_run.specs.declared.folder.Folder.{Folder}
use Rattle.daide_run.specs.declared.notices.RecordNotice.{RecordNotice}
use Rattle.daide_run.specs.Notices.{HasNoFile}
use Rattle.daide_run.specs.Folder.{HasOwnRecord, Starts, head_for, folder_head}

module _ {S R File Dir : Type 0} (failed : Type 0) (Reported : RecordNotice → Type 0)
    (folder : Option (Bor (Folder R File Dir))) (made : Recorded (SocketPorts S)) where
  -- without a folder there is none
  pub none_begun : folder ≡ None → made.record_of ≡ no_record → HasOwnRecord failed Reported (folder_head folder) made
  none_begun is none =
      subst (λ (f : Option (Bor (Folder R File Dir))). HasOwnRecord failed Reported (folder_head f) made) (sym is) none

  -- with this folder there is the one of these ports, or none
  module _ (opened : Bor (Folder R File Dir)) (ports : SocketPorts S) (bot : Bot) (now : Option Moment)
      (same : made.ports ≡ ports) (own : bot ≡ ports.identity) where
    begun_in : ((made.record_of ≡ no_record) × HasNoFile Reported bot.number)
        ⊎ Starts failed opened.now.config (words_of opened.now.words) (bot.number, Some bot.address) now made.record_of
        made.last →
        HasOwnRecord failed Reported (folder_head (Some opened)) made
    begun_in (inl none) =
        inl (
          none.0,
          subst (λ (b : Bot). HasNoFile Reported b.number) (own ∙ sym (ap (λ (p : SocketPorts S). p.identity) same)) none.1,
        )
    begun_in (inr starts) =
        inr (
          now,
          subst (λ (b : Bot). Starts failed opened.now.config (words_of opened.now.words) (b.number, Some b.address) now
              made.record_of made.last)
              (own ∙ sym (ap (λ (p : SocketPorts S). p.identity) same)) starts,
        )

    pub own_begun : folder ≡ Some opened → ((made.record_of ≡ no_record) × HasNoFile Reported bot.number)
        ⊎ Starts failed opened.now.config (words_of opened.now.words) (bot.number, Some bot.address) now made.record_of
        made.last →
        HasOwnRecord failed Reported (folder_head folder) made
    own_begun is h =
        subst (λ (f : Option (Bor (Folder R File Dir))). HasOwnRecord failed Reported (folder_head f) made) (sym is)
        (begun_in h)

-- limits and words that are those of the settings head the records
pub head_by : {F : Type 0} (settings : Settings) (records : Option F) (path : F) (config : Config) (words : Words) →
    config ≡ settings.config → words ≡ settings.words → records ≡ Some path →
    Some (config, words_of words) ≡ head_for settings records
head_by settings records path config words same_config same_words is =
    ap (λ (c : Config). Some (c, words_of words)) same_config
    ∙ ap (λ (w : Words). Some (settings.config, words_of w)) same_words
    ∙ ap (head_for settings) (sym is)
