mod Rows
mod StoreLaws
