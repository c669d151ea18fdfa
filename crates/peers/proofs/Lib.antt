mod Asking
mod Lasting
mod Naming
mod Rows
mod Senders
