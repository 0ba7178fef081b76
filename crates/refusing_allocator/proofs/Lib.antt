mod Budgets
mod Methods
