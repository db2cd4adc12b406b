pub mod WordRuns
