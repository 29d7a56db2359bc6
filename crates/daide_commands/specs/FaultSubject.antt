-- What a fault of a run is about. (own)
use Rattle.daide_settings.specs.declared.settings.SettingsError.{SettingsError}
use Rattle.daide_settings.specs.declared.settings.SettingsError.TheVariants as settings_faults
use Rattle.daide_run.specs.declared.gateway.GatewayFault.TheVariants as gateway_faults
use Rattle.daide_run.specs.declared.running.RunFault.{RunFault}
use Rattle.daide_run.specs.declared.running.RunFault.TheVariants as run_faults
use Rattle.daide_commands.specs.declared.causes.FaultSubject.{FaultSubject}
use Rattle.daide_commands.specs.declared.causes.FaultSubject.TheVariants.{Folder, Name, Value, Text, Memory}

-- a fault of settings is about their text, unless memory was refused
abbrev pub subject_of_settings : SettingsError → FaultSubject
subject_of_settings settings_faults.NotToml = Text
subject_of_settings settings_faults.Unknown = Text
subject_of_settings (settings_faults.Missing key) = Text
subject_of_settings (settings_faults.WrongType key) = Text
subject_of_settings (settings_faults.Range key) = Text
subject_of_settings settings_faults.Memory = Memory

abbrev pub subject_by : RunFault → FaultSubject
subject_by (run_faults.Settings fault) = subject_of_settings fault
subject_by run_faults.Memory = Memory
subject_by (run_faults.Record cause) = Folder cause
subject_by (run_faults.Gateway (gateway_faults.Name key)) = Name key
subject_by (run_faults.Gateway (gateway_faults.Listen key cause)) = Value key cause
subject_by (run_faults.Gateway gateway_faults.Memory) = Memory
subject_by (run_faults.Gateway (gateway_faults.Serve fault)) = Memory
