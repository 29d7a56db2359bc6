-- The content of a value of `Settings`.
use Rattle.daide_settings.specs.declared.settings.Settings.{Settings}
use Rattle.daide_words.specs.Words.{words_of}
use Rattle.daide_settings.specs.Settings.{Given}

abbrev pub given_of : Settings → Given
given_of settings = record {
  listen = settings.listen;
  server = settings.server;
  top_level = settings.config.top_level;
  max_body = settings.config.max_body;
  max_depth = settings.config.max_depth;
  im_seconds = settings.im_seconds;
  max_sessions = settings.max_sessions;
  sessions = settings.sessions;
  turns = settings.turns;
  idle_seconds = settings.idle_seconds;
  words = words_of settings.words;
  stall_seconds = settings.stall_seconds;
  endless = settings.endless;
  allow = settings.allow.items;
  max_per_address = settings.max_per_address;
  max_refused = settings.max_refused;
  control = settings.control;
}
