pub mod TableHolds
