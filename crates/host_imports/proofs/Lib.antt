mod Params
mod Numbers
