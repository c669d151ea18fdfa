pub mod Sums
pub mod Budgets
pub mod Cells
pub mod Balances
pub mod Refusals
pub mod Joins
