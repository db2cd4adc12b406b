pub mod RefusalsHold
pub mod ResultsHold
pub mod OrdersHold
pub mod BudgetsHold
pub mod ExamplesHold
