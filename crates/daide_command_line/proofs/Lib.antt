mod CommandLemmas
mod CommandFacts
